-- `ending_side` meets its contract: by the test on `sides`.
use borrow.Author.Tests.{eq-eqb, ne_eqb}
use Rattle.pricing.specs.Stop.{ending_side}
use Rattle.pricing.proofs.ending_side.Goals as goal

pub returns-then-g-eq2 : goal.returns-then-g-eq2
unfolding ending_side
returns-then-g-eq2 c = simp (eq-eqb _ _ c.if-g-eq2.true)

pub returns : goal.returns
unfolding ending_side
returns c = simp (ne_eqb _ _ c.if-g-eq2.false)
