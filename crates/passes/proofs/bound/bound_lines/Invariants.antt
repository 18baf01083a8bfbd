-- `bound_lines` meets its contract. The loop's invariant is `BoundRun`: the lines from a on are bounded, and none of them costs less than
-- what is in hand.
use Rattle.passes.specs.Bound.{BoundRun}
use Rattle.passes.proofs.bound.bound_lines.Given as goal

abbrev pub invariant-loop-a : goal.invariant-loop-a
invariant-loop-a l =
    BoundRun l.work l.initial.words l.words l.source l.lines l.least l.a
