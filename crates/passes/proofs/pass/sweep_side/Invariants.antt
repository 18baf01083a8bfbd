-- `sweep_side` meets its contract. The loop's invariant is `SideRun`: the lines above line i know the starts of the pass too. A turn
-- passes over a line whose place holds less than they cost, or weighs them.
use Rattle.passes.specs.Swept.{SideRun}
use Rattle.passes.proofs.pass.sweep_side.Given as goal

abbrev pub invariant-loop-i : goal.invariant-loop-i
invariant-loop-i l =
    SideRun l.s l.g l.initial.work l.work l.sums l.initial.words l.words l.c l.pass l.stop l.since l.parts l.fed l.starts l.i
