-- `side_before` meets its contract: by the test on `sides`.
use borrow.Author.Tests.{eq-eqb, ne_eqb}
use Rattle.model.specs.Leaf.{sides_of}
use Rattle.candidates.specs.Search.{before}
use Rattle.candidates.proofs.read.side_before.Goals as goal

pub returns-then-g-eq2 : goal.returns-then-g-eq2
unfolding before sides_of
returns-then-g-eq2 c = simp (eq-eqb _ _ c.if-g-eq2.true)

pub returns : goal.returns
unfolding before sides_of
returns c = simp (ne_eqb _ _ c.if-g-eq2.false)
