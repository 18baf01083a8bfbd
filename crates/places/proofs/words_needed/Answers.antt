-- `words_needed` meets its contract: it computes the definition.
use borrow.Author.Rules.{rules}
use Rattle.places.specs.Address.{words_needed}
use Rattle.places.proofs.words_needed.Goals as goal

pub returns : goal.returns
unfolding words_needed
returns c = search rules
