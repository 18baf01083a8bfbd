-- `make_book` meets its contract: a book that was read is made, and a refusal of reading is the book's.
use mathlib.Core.Path.{refl, sym, ◌∙◌}
use Rattle.chapters.specs.laws.Answer.{answered, answered_refused}
use Rattle.book.specs.laws.Bound.{bound_refused}
use Rattle.book.proofs.make_book.Goals as goal

pub make_read-requires : goal.make_read-requires
make_read-requires c = answered _ _ _ (sym c.in-Ok.is ∙ c.read_book.ensures)

pub returns-in-Err : goal.returns-in-Err
returns-in-Err c = bound_refused _ _ _ _ _ _ (answered_refused _ _ _ (sym c.in-Err.is ∙ c.read_book.ensures)) _ refl
