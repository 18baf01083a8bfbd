-- `along` meets its contract: the folios that are followed back are those of the best route, and the chapters along them the best choice.
use borrow.Author.Rules.{rules}
use mathlib.Core.Path.{refl}
use Rattle.book.specs.laws.Along.{along_followable, along_room, along_made}
use Rattle.book.proofs.along.Goals as goal

pub make_chapters-requires : goal.make_chapters-requires
make_chapters-requires c = along_room c.requires _ _ c.trace.ensures (search rules)

pub returns : goal.returns
returns c = along_made c.requires _ _ c.trace.ensures c.make_chapters.ensures

pub trace-requires : goal.trace-requires
trace-requires c = along_followable c.requires _ refl
