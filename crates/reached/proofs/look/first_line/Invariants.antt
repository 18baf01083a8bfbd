-- `first_line` meets its contract. The loop's invariant: no line from `from` on and before a is reached.
use Rattle.reached.specs.Look.{Quiet}
use Rattle.reached.proofs.look.first_line.Given as goal

abbrev pub invariant-loop-a : goal.invariant-loop-a
invariant-loop-a l = Quiet l.g l.work l.column l.g.spec.sides l.from l.a
