-- `has_folio` meets its contract: line 1 begins past the specification's end.
use Rattle.chapters.specs.Book.{has_folio}
use Rattle.chapters.proofs.has_folio.Goals as goal

pub returns : goal.returns
unfolding has_folio
returns c = cc
