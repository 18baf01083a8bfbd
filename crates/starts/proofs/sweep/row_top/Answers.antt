-- `row_top` meets its contract: by the test on the figures.
use borrow.Author.Tests.{lt-ltb, le-ltb}
use Rattle.starts.specs.Sweep.{row_top}
use Rattle.starts.proofs.sweep.row_top.Goals as goal

pub returns-then-row : goal.returns-then-row
unfolding row_top
returns-then-row c = simp (lt-ltb _ _ c.if-row.true)

pub returns-else-row : goal.returns-else-row
unfolding row_top
returns-else-row c = simp (le-ltb _ _ c.if-row.false)
