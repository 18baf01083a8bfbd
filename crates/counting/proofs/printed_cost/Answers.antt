-- `printed_cost` meets its contract: within the limits no product or sum of the counts passes 32 bits (laws/Counts), and two numbers of
-- 32 bits side by side pass no 64.
use Prim.Native.Nat.{◌+◌, ◌*◌, ◌≤◌}
use native.Mathlib.Omega.{arith}
use Rattle.rules.specs.Parts.{printed_cost}
use Rattle.rules.specs.laws.Counts.{few_bounded}
use Rattle.counting.proofs.printed_cost.Goals as goal
use Rattle.counting.proofs.printed_cost.Goals.{After-leaves_turned-y}

-- The floats that waited and the leaves turned, by their weights.
weighted : (c : After-leaves_turned-y)
    → (let a = c.args in
    (a.g.spec.alpha * a.sums.x ≤ 1062500000) × (a.g.spec.beta * c.leaves_turned-y.result ≤ 4250000))
weighted c =
    let parts = few_bounded c.args.g (c.args.pages + 1) c.args.sums.x c.requires in
    rw c.leaves_turned-y.ensures (parts.waits, parts.leaves)

pub returns : goal.returns
unfolding printed_cost
returns c = rw (c.from.ensures, c.from-2.ensures, c.leaves_turned-y.ensures)

pub overflow_mul-turns-2 : goal.overflow_mul-turns-2
overflow_mul-turns-2 c = omega (arith, weighted (goal.at.overflow_mul-turns-2 c).After-leaves_turned-y)

pub overflow_add-turns : goal.overflow_add-turns
overflow_add-turns c = omega (arith, weighted (goal.at.overflow_add-turns c).After-leaves_turned-y)

pub overflow_mul-result : goal.overflow_mul-result
overflow_mul-result c = omega (arith, weighted (goal.at.overflow_mul-result c).After-leaves_turned-y)

pub overflow_add-result : goal.overflow_add-result
overflow_add-result c = omega (arith, weighted (goal.at.overflow_add-result c).After-leaves_turned-y)
