-- `sweep` meets its contract. The loop's invariant is `SweepRun`: the sides before c know the starts of the pass too.
use Rattle.passes.specs.Swept.{SweepRun}
use Rattle.passes.proofs.pass.sweep.Given as goal

abbrev pub invariant-loop-c : goal.invariant-loop-c
invariant-loop-c l = SweepRun l.s l.g l.initial.work l.work l.initial.words l.words l.pass l.stop l.c
