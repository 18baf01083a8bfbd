-- `leaf_cost` meets its contract: no more than 250 floats wait, and no weight is above 1,000.
use Rattle.std.proofs.Common.{◌+◌, ◌*◌, ◌≤◌, arith}
use Rattle.rules.specs.laws.Walked.{waiting_few}
use Rattle.pricing.specs.laws.Price.{price_small}
use Rattle.estimate.proofs.leaf_cost.Goals as goal
use Rattle.estimate.proofs.leaf_cost.Goals.{After-waiting_after-waiting}

-- No more floats wait than there are.
few : (c : After-waiting_after-waiting) → c.waiting_after-waiting.result.figures + c.waiting_after-waiting.result.tables ≤ 250
few c = rw c.waiting_after-waiting.ensures (waiting_few c.requires.sound _)

pub overflow_add-result : goal.overflow_add-result
overflow_add-result c = omega (arith, few (goal.at.overflow_add-result c).After-waiting_after-waiting)

pub overflow_cast-result : goal.overflow_cast-result
overflow_cast-result c = omega (arith, few (goal.at.overflow_cast-result c).After-waiting_after-waiting)

-- The product is small.
small : (c : After-waiting_after-waiting)
    → c.args.g.spec.alpha * (c.waiting_after-waiting.result.figures + c.waiting_after-waiting.result.tables) ≤ 250000
small c = price_small _ _ c.requires.sound.spec_ranged.alphas (few c)

pub overflow_mul-result : goal.overflow_mul-result
overflow_mul-result c = omega (arith, small (goal.at.overflow_mul-result c).After-waiting_after-waiting)

pub overflow_add-result-2 : goal.overflow_add-result-2
overflow_add-result-2 c = omega (arith, small (goal.at.overflow_add-result-2 c).After-waiting_after-waiting, c.requires.sound.spec_ranged.betas)

pub returns : goal.returns
returns c = omega (arith, small (goal.at.returns c).After-waiting_after-waiting, c.requires.sound.spec_ranged.betas)
