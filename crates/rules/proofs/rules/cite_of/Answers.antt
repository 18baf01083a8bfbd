-- `cite_of` meets its contract: there is a float j where its test holds.
use borrow.Author.Tests.{lt-ltb, le-ltb}
use Rattle.rules.specs.Parts.{cite_of}
use Rattle.rules.proofs.rules.cite_of.Goals as goal

pub returns-then-j-gt0 : goal.returns-then-j-gt0
unfolding cite_of
returns-then-j-gt0 c = rw (lt-ltb 0 _ c.if-j-gt0.true, ← c.field.ensures)

pub returns : goal.returns
unfolding cite_of
returns c = rw (le-ltb 0 _ c.if-j-gt0.false)
