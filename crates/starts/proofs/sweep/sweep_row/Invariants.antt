-- `sweep_row` meets its contract. The loop's invariant is `RowRun`: the starts in the row's columns with t tables and more are known.
-- Where the floats alone are too tall, no earlier column of the row has a start, and none before the origin's tables is reached.
use Rattle.starts.specs.Swept.{RowRun}
use Rattle.starts.proofs.sweep.sweep_row.Given as goal

abbrev pub invariant-loop-t : goal.invariant-loop-t
invariant-loop-t l = RowRun l.s l.g l.initial.work l.work l.initial.words l.words l.row l.tables l.t l.any
