-- `sweep_column` meets its contract. The loop's invariant is `ColumnSweepRun`: the starts in rows from b figures on are known. Where
-- the figures alone are too tall, no earlier row has a start, and none before the origin's figures is reached.
use Rattle.starts.specs.Swept.{ColumnSweepRun}
use Rattle.starts.proofs.sweep.sweep_column.Given as goal

abbrev pub invariant-loop-b : goal.invariant-loop-b
invariant-loop-b l =
    ColumnSweepRun l.s l.g l.initial.work l.work l.initial.words l.words l.seen l.j l.begin l.heights l.b l.any
