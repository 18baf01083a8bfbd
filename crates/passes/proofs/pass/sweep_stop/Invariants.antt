-- `sweep_stop` meets its contract. The loop's invariant: line i is after the last one of the pass.
use Prim.Native.Nat.{◌<◌}
use Rattle.passes.proofs.pass.sweep_stop.Given as goal

abbrev pub invariant-loop-i : goal.invariant-loop-i
invariant-loop-i l = l.pass.reach.last < l.i
