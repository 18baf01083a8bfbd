-- White page by page, and how much of it there can be.
use Rattle.std.specs.Prelude.{pred, ◌+◌, ◌*◌, ◌≤◌, ◌≡◌, refl, Bool, true, false, List, [], ◌∷◌, length}
use Rattle.std.proofs.Common.{suc-mul, mul-le-mul_right, arith}
use Rattle.model.specs.Galley.{Galley, Place, zeros, sizes, blocks}
use Rattle.model.specs.White.{white_on, whites, white}
use Rattle.model.specs.Answers.{ended}
use Rattle.model.specs.Best.{allowed}
use Rattle.model.specs.laws.Judge.{accepts}
use Rattle.model.proofs.laws.Valid.{pages_fit}
use Rattle.model.specs.laws.White.{page_white}

-- W page by page: what the first page adds, and what those after it do.
pub whites_next : (g : Galley) (u v : Place) (vs : List Place) → whites g u (v ∷ vs) ≡ page_white g (ended vs) u v + whites g v vs
unfolding whites page_white
whites_next g u v [] = refl
whites_next g u v (w ∷ ws) = refl

-- No page lacks more than htMax.
pub page_white_le : (g : Galley) (last : Bool) (u v : Place) → page_white g last u v ≤ g.spec.htmax
unfolding page_white white_on
page_white_le g true u v = omega arith
page_white_le g false u v = omega arith

-- The last page adds nothing, and each other at most htMax.
whites_le : (g : Galley) (u v : Place) (vs : List Place) → whites g u (v ∷ vs) ≤ length vs * g.spec.htmax
unfolding whites page_white
whites_le g u v [] = omega arith
whites_le g u v (w ∷ ws) =
    let here = page_white_le g false u v in
    let after = whites_le g v w ws in
    simp suc-mul (omega arith)

-- W of an accepted list is at most htMax for each block but one.
pub white_le : (g : Galley) (ps : List Place) → accepts (allowed g) (sizes g) 1 (zeros g) ps ≡ true
    → white g ps ≤ pred (blocks g) * g.spec.htmax
unfolding white whites
white_le g [] h = omega arith
white_le g (v ∷ vs) h =
    let number = pages_fit g 1 (zeros g) (v ∷ vs) h in
    let most = whites_le g (zeros g) v vs in
    let fewer : length vs ≤ pred (blocks g) = omega arith in
    let scaled = mul-le-mul_right g.spec.htmax fewer in
    omega arith
