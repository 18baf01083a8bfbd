-- `leaves_turned` meets its contract: no page lies on a leaf before that of the first.
use native.Mathlib.Omega.{arith}
use Rattle.model.proofs.laws.Leaf.{leaf_mono}
use Rattle.galley.specs.Model.{sides_in}
use Rattle.rules.specs.Parts.{leaves_turned}
use Rattle.counting.proofs.leaves_turned.Goals as goal

pub returns : goal.returns
unfolding leaves_turned
returns c = rw (c.spread_of-first.ensures, c.spread_of-last.ensures)

pub overflow_sub-result : goal.overflow_sub-result
overflow_sub-result c =
    omega (arith, leaf_mono (sides_in c.args.g) 1 c.args.pages c.requires.some)
