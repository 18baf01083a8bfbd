-- `finish` meets its contract: within the limits no product or sum of the counts passes 32 bits (laws/Counts).
use Prim.Native.Nat.{◌*◌, ◌≤◌}
use native.Mathlib.Omega.{arith}
use mathlib.Core.Path.{sym, ◌∙◌}
use Rattle.rules.specs.Parts.{counts, finished}
use Rattle.rules.specs.laws.Counts.{few_bounded}
use Rattle.counting.proofs.finish.Goals as goal
use Rattle.counting.proofs.finish.Goals.{After-leaves_turned-y}

-- X and Y by their weights.
weighted : (c : After-leaves_turned-y)
    → (let a = c.args in
    (a.g.spec.alpha * a.sums.x ≤ 1062500000) × (a.g.spec.beta * c.leaves_turned-y.result ≤ 4250000))
weighted c =
    let parts = few_bounded c.args.g c.args.pages c.args.sums.x c.requires in
    rw c.leaves_turned-y.ensures (parts.waits, parts.leaves)

pub returns-then-not-all_placed : goal.returns-then-not-all_placed
unfolding finished
returns-then-not-all_placed c = rw (sym c.all_placed.ensures ∙ c.if-not-all_placed.true)

pub returns : goal.returns
unfolding finished counts
returns c = rw (sym c.all_placed.ensures ∙ c.if-not-all_placed.false, c.leaves_turned-y.ensures)

pub overflow_mul-result : goal.overflow_mul-result
overflow_mul-result c = omega (arith, weighted (goal.at.overflow_mul-result c).After-leaves_turned-y)

pub overflow_mul-result-2 : goal.overflow_mul-result-2
overflow_mul-result-2 c = omega (arith, weighted (goal.at.overflow_mul-result-2 c).After-leaves_turned-y)

pub overflow_add-result : goal.overflow_add-result
overflow_add-result c = omega (arith, weighted (goal.at.overflow_add-result c).After-leaves_turned-y)
