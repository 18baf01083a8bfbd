-- `leaves` meets its contract: the last page lies on no earlier leaf than the first.
use native.Mathlib.Omega.{arith}
use Rattle.model.specs.Leaf.{sides_of}
use Rattle.model.proofs.laws.Leaf.{leaf_mono}
use Rattle.book.proofs.leaves.Goals as goal

pub overflow_sub-last : goal.overflow_sub-last
overflow_sub-last c =
    let args = c.args in
    let up = leaf_mono (sides_of args.sides args.folio) 1 args.pages c.requires.some in
    omega (arith, c.spread_of-first.ensures, c.spread_of-last.ensures)
