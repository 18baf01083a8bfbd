-- `fill_place` meets its contract. The loop's invariant is `SidesRun`: the sides before c are filled.
use Rattle.entries.specs.Run.{SidesRun}
use Rattle.entries.proofs.side.fill_place.Given as goal

abbrev pub invariant-loop-c : goal.invariant-loop-c
invariant-loop-c l = SidesRun l.s l.task l.initial.work l.work l.sums l.initial.words l.words l.initial.ends l.ends l.windows l.end l.c
