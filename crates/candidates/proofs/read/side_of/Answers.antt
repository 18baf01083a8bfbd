-- `side_of` meets its contract: by the test on `sides`.
use borrow.Author.Tests.{eq-eqb, ne_eqb}
use Rattle.model.specs.Leaf.{sides_of}
use Rattle.theorems.specs.pages.Graph.{side}
use Rattle.candidates.proofs.read.side_of.Goals as goal

pub returns-then-g-eq2 : goal.returns-then-g-eq2
unfolding sides_of side
returns-then-g-eq2 c = simp (eq-eqb _ _ c.if-g-eq2.true)

pub returns : goal.returns
unfolding sides_of side
returns c = simp (ne_eqb _ _ c.if-g-eq2.false)
