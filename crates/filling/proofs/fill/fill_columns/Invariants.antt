-- `fill_columns` meets its contract. The loop's invariant is `ColumnsRun`: what is left of the columns makes of the words
-- what all columns make of those at the start.
use Rattle.filling.specs.Run.{ColumnsRun}
use Rattle.filling.proofs.fill.fill_columns.Given as goal

abbrev pub invariant-loop-j : goal.invariant-loop-j
invariant-loop-j l = ColumnsRun l.s l.task l.initial.work l.work l.initial.words l.words l.seen l.recall l.j
