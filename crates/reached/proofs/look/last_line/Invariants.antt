-- `last_line` meets its contract. The loop's invariant: no line from `last` on is reached.
use Rattle.std.proofs.Common.{◌+◌}
use Rattle.reached.specs.Look.{Quiet}
use Rattle.reached.proofs.look.last_line.Given as goal

abbrev pub invariant-loop-last : goal.invariant-loop-last
invariant-loop-last l = Quiet l.g l.work l.column l.g.spec.sides l.last (l.g.text.count + 1)
