-- `add_up` meets its contract: its tests are those of the definition.
use borrow.Author.Tests.{lt-ltb, le-ltb}
use Rattle.chapters.specs.Book.{adds_up}
use Rattle.chapters.proofs.Chapters.add_up.Goals as goal

pub returns-then-is_empty : goal.returns-then-is_empty
unfolding adds_up
returns-then-is_empty c = simp (← c.is_empty.ensures, c.if-is_empty.true)

pub returns-then-self-gt200 : goal.returns-then-self-gt200
unfolding adds_up
returns-then-self-gt200 c = simp (← c.is_empty.ensures, c.if-is_empty.false, lt-ltb _ _ c.if-self-gt200.true)

pub returns : goal.returns
unfolding adds_up
returns c = simp (← c.is_empty.ensures, c.if-is_empty.false, le-ltb _ _ c.if-self-gt200.false, c.all_bytes.ensures)
