-- `last_sweep` meets its contract. The loop's invariant is `LastRun`: the column is filled above line i, and the queues hold
-- the starts of the window. Above the first line nothing is reached, so that the column is as if filled there; and so are the lines that
-- are left where no line from the window's first on is reached or has a start.
use Rattle.filling.specs.Run.{LastRun}
use Rattle.filling.proofs.fill.last_sweep.Given as goal

abbrev pub invariant-loop-i : goal.invariant-loop-i
invariant-loop-i l =
    LastRun l.s l.task l.initial.work l.work l.sums l.initial.words l.words l.j l.waiting l.span l.ends l.i l.last
