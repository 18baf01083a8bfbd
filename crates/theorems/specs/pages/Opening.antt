-- An opening, pages already printed: the origin that it leads to, its place, its pages and its cost.
use Rattle.std.specs.Prelude.{ℕ, suc, ◌+◌, ◌-◌, ◌*◌, ◌≤◌, ◌≡◌, Bool, ◌&&◌, length}
use Rattle.std.proofs.Math.Nat.{suc-mul, mul-zero, mul-one, mul-add, mul-le-mul_right}
use native.Mathlib.Omega.{arith}
use Rattle.std.proofs.Math.Path.{refl, ap}
use Rattle.std.proofs.Common.{◌∙◌}
use Rattle.std.proofs.Math.Bool.{true, false}
use mathlib.Core.List.{List, [], ◌∷◌, ◌++◌}
use Rattle.model.specs.Gather.{pick, one}
use Rattle.model.specs.Galley.{Galley, Place, streams, zeros, sizes}
use Rattle.model.specs.Leaf.{leaf, ends}
use Rattle.model.specs.Answers.{ended}
use Rattle.model.specs.Best.{allowed}
use Rattle.model.specs.Opening.{end_of}
use Rattle.model.proofs.laws.Gather.{and_left, and_right}
use Rattle.model.proofs.laws.Leaf.{leaf_next, leaf_mono}
use Rattle.model.specs.laws.Rules.{placed}
use Rattle.model.proofs.laws.Rules.{kept, forward_at, placed_grows}
use Rattle.model.specs.laws.Words.{Shaped}
use Rattle.model.specs.laws.Lists.{Inside}
use Rattle.model.proofs.laws.Valid.{page_inside}
use Rattle.model.specs.laws.White.{page_white}
use Rattle.theorems.specs.turns.Waiting.{waiting, page_sum, at_end, page_cost}
use Rattle.theorems.specs.turns.Rank.{rank}
use Rattle.theorems.specs.turns.Bounds.{heaviest, weight_le}
use Rattle.theorems.specs.pages.Graph.{Origin, beginning, full}
use Rattle.theorems.specs.pages.Lists.{zeros_inside}

-- The origin after one more page, which stops at v and is not the last.
abbrev pub printed : Galley → Origin → Place → Origin
printed g o v =
    record {
      place = v;
      pages = suc o.pages;
      cost = o.cost + rank (page_cost g (suc o.pages) false v) (page_white g false o.place v);
    }

-- The origin after an opening: place, pages and cost folded over it (document 02, S-6).
unfoldable pub onto : Galley → Origin → List Place → Origin
onto g o [] = o
onto g o (v ∷ vs) = onto g (printed g o v) vs

-- No page of an opening, which starts at the origin, breaks a rule, and none counts as the last (document 02, S-6).
unfoldable pub passes : Galley → Origin → List Place → Bool
passes g o [] = true
passes g o (v ∷ vs) = allowed g (suc o.pages) false o.place v && passes g (printed g o v) vs

-- The origin after an opening of the galley.
abbrev pub after : Galley → List Place → Origin
after g os = onto g (beginning g) os

-- The white of the pages of an opening that starts at u: each counts, for none is the last (document 02, S-10).
unfoldable pub open_white : Galley → Place → List Place → ℕ
open_white g u [] = 0
open_white g u (v ∷ vs) = page_white g false u v + open_white g v vs

-- An opening that neither 20 nor 21 turns away: its pages pass, and a block is left.
pub record Opening (g : Galley) (os : List Place) : Type 0 where
  pub shaped : Shaped (streams g) os
  pub passed : passes g (beginning g) os ≡ true
  pub left : full g (after g os).place ≡ false

module _ (g : Galley) where
  -- The pages of the opening and of what follows add up.
  pub pages_onto : (o : Origin) (os ps : List Place) → o.pages + length (os ++ ps) ≡ (onto g o os).pages + length ps
  unfolding onto
  pages_onto o [] ps = refl
  pages_onto o (v ∷ vs) ps = let after = pages_onto (printed g o v) vs ps in omega arith

  -- The opening ends at the origin's place.
  pub end_onto : (o : Origin) (os : List Place) → (onto g o os).place ≡ end_of o.place os
  unfolding onto end_of
  end_onto o [] = refl
  end_onto o (v ∷ vs) = end_onto (printed g o v) vs

  -- The end of an opening that passes lies inside the full place,
  inside_onto : (o : Origin) (os : List Place) → Shaped (streams g) os → passes g o os ≡ true → Inside (sizes g) o.place
      → Inside (sizes g) (onto g o os).place
  unfolding passes onto
  inside_onto o [] sh h i = i
  inside_onto o (v ∷ vs) sh h i =
      let here = and_left (allowed g (suc o.pages) false o.place v) (passes g (printed g o v) vs) h in
      inside_onto (printed g o v) vs sh.1
      (and_right (allowed g (suc o.pages) false o.place v) (passes g (printed g o v) vs) h)
      (page_inside g o.place v sh.0 (forward_at g o.place v (kept here).rule13))

  -- costs at most α·n + β, with htMax of white, for each block that it places,
  dear_onto : (o : Origin) (os : List Place) → passes g o os ≡ true → o.cost ≤ placed g o.place * heaviest g
      → (onto g o os).cost ≤ placed g (onto g o os).place * heaviest g
  unfolding passes onto
  dear_onto o [] h d = d
  dear_onto o (v ∷ vs) h d =
      let may = and_left (allowed g (suc o.pages) false o.place v) (passes g (printed g o v) vs) h in
      let scaled = mul-le-mul_right (heaviest g) (placed_grows g o.place v (kept may).rule13) in
      let more = suc-mul (placed g o.place) (heaviest g) in
      let here = weight_le g (suc o.pages) false o.place v in
      dear_onto (printed g o v) vs
      (and_right (allowed g (suc o.pages) false o.place v) (passes g (printed g o v) vs) h) (omega arith)

  -- which is by α what waited at the ends of its leaves, and by β the leaves turned to the page after it, with its white.
  cost_onto : (o : Origin) (os : List Place)
      → (onto g o os).cost + rank (g.spec.beta * leaf g.spec.sides (suc o.pages)) 0
      ≡ o.cost
      + rank (g.spec.alpha * page_sum (at_end g.spec.sides (waiting g)) (suc o.pages) os
      + g.spec.beta * leaf g.spec.sides (suc (onto g o os).pages)) (open_white g o.place os)
  unfolding onto page_sum page_cost at_end open_white
  cost_onto o [] = let z = mul-zero g.spec.alpha in omega arith
  cost_onto o (v ∷ vs) =
      let next = leaf_next g.spec.sides (suc o.pages) in
      let turned = ap (λ n. g.spec.beta * n) next ∙ mul-add g.spec.beta (leaf g.spec.sides (suc o.pages)) (one (ends g.spec.sides (suc o.pages))) in
      let later = page_sum (at_end g.spec.sides (waiting g)) (suc (suc o.pages)) vs in
      let sum = mul-add g.spec.alpha (at_end g.spec.sides (waiting g) (suc o.pages) (ended vs) v) later in
      let here = page (ends g.spec.sides (suc o.pages)) in
      let after = cost_onto (printed g o v) vs in
      omega arith
    where
      page : (b : Bool)
          → pick b (g.spec.alpha * waiting g v + g.spec.beta) 0 ≡ g.spec.alpha * pick b (waiting g v) 0 + g.spec.beta * one b
      page true = let z = mul-one g.spec.beta in omega arith
      page false = let y = mul-zero g.spec.alpha in let z = mul-zero g.spec.beta in omega arith

  module _ (os : List Place) (opening : Opening g os) where
    pub end_inside : Inside (sizes g) (after g os).place
    end_inside = inside_onto (beginning g) os opening.shaped opening.passed (zeros_inside g)

    pub end_dear : (after g os).cost ≤ placed g (after g os).place * heaviest g
    end_dear = dear_onto (beginning g) os opening.passed (omega arith)

    pub end_cost : (after g os).cost
        ≡ rank (g.spec.alpha * page_sum (at_end g.spec.sides (waiting g)) 1 os
        + g.spec.beta * (leaf g.spec.sides (suc (after g os).pages) - leaf g.spec.sides 1)) (open_white g (zeros g) os)
    end_cost =
        let first = leaf g.spec.sides 1 in
        let past = leaf g.spec.sides (suc (after g os).pages) in
        let up = leaf_mono g.spec.sides 1 (suc (after g os).pages) (omega arith) in
        let split : past ≡ first + (past - first) = omega arith in
        let all = ap (λ n. g.spec.beta * n) split ∙ mul-add g.spec.beta first (past - first) in
        let cost = cost_onto (beginning g) os in
        omega arith
