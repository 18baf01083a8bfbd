use Rattle.std.proofs.Common.{◌-◌, ◌≤◌}
use Rattle.paginate.proofs.read_input.Given as goal

abbrev pub invariant-loop-got : goal.invariant-loop-got
invariant-loop-got g l = l.got ≤ 8193

abbrev pub decreases-loop-got : goal.decreases-loop-got
decreases-loop-got g l = 8193 - l.got
