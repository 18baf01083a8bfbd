-- A list that begins with an opening is accepted, costs and compares as what follows does from the origin to which the opening leads.
use Rattle.std.specs.Prelude.{ℕ, suc, ◌+◌, true, ◌&&◌}
use native.Mathlib.Omega.{arith}
use Rattle.std.proofs.Math.Path.{◌≡◌, refl, ap}
use Rattle.std.proofs.Common.{sym, ◌∙◌}
use Rattle.std.proofs.Math.Bool.{Bool, false, and_assoc}
use mathlib.Core.List.{List, [], ◌∷◌, ◌++◌}
use Rattle.std.proofs.Math.ListN.{length}
use Rattle.model.specs.Galley.{Galley, Place, Sane, streams, zeros, sizes}
use Rattle.model.specs.Answers.{ended}
use Rattle.model.specs.Turns.{turns}
use Rattle.model.specs.White.{white}
use Rattle.model.specs.Order.{then_by, by, starts_of, before}
use Rattle.model.specs.Best.{allowed}
use Rattle.model.proofs.laws.Gather.{and_right, and_both}
use Rattle.model.specs.laws.Judge.{accepts}
use Rattle.model.specs.laws.Words.{Shaped}
use Rattle.model.proofs.laws.Valid.{Accepted}
use Rattle.model.specs.laws.White.{page_white}
use Rattle.model.proofs.laws.White.{whites_next, white_le}
use Rattle.theorems.specs.turns.Waiting.{page_sum, page_cost, costs}
use Rattle.theorems.specs.turns.Rank.{rank, ranked, rank_order}
use Rattle.theorems.specs.turns.Bounds.{Narrow}
use Rattle.theorems.specs.turns.Costs.{turns_are_costs}
use Rattle.theorems.specs.pages.Graph.{Origin, beginning, full}
use Rattle.theorems.specs.pages.Lists.{Follows}
use Rattle.theorems.specs.pages.Ties.{ties, before_from}
use Rattle.theorems.specs.pages.Opening.{printed, onto, passes, after, Opening, pages_onto}

-- A list that goes on has not ended.
ended_append : (os ps : List Place) (p : Place) → ended (os ++ (p ∷ ps)) ≡ false
ended_append [] ps p = refl
ended_append (v ∷ vs) ps p = refl

-- Two lists of places are of a shape together.
shaped_append : (k : ℕ) (os ps : List Place) → Shaped k os → Shaped k ps → Shaped k (os ++ ps)
shaped_append k [] ps sh th = th
shaped_append k (v ∷ vs) ps sh th = (sh.0, shaped_append k vs ps sh.1 th)

shaped_rest : (k : ℕ) (os ps : List Place) → Shaped k (os ++ ps) → Shaped k ps
shaped_rest k [] ps sh = sh
shaped_rest k (v ∷ vs) ps sh = shaped_rest k vs ps sh.1

module _ (g : Galley) where
  -- A list that begins with the opening is accepted where the opening passes and what follows is accepted from its end on;
  accepts_onto : (o : Origin) (os : List Place) (p : Place) (ps : List Place)
      → accepts (allowed g) (sizes g) (suc o.pages) o.place (os ++ (p ∷ ps))
      ≡ passes g o os && accepts (allowed g) (sizes g) (suc (onto g o os).pages) (onto g o os).place (p ∷ ps)
  unfolding accepts passes onto
  accepts_onto o [] p ps = refl
  accepts_onto o (v ∷ vs) p ps =
      let here : Bool = allowed g (suc o.pages) false o.place v in
      ap (λ b. allowed g (suc o.pages) b o.place v && accepts (allowed g) (sizes g) (suc (suc o.pages)) v (vs ++ (p ∷ ps)))
      (ended_append vs ps p)
      ∙ ap (λ b. here && b) (accepts_onto (printed g o v) vs p ps)
      ∙ sym (and_assoc here (passes g (printed g o v) vs) _)

  -- it costs what the opening and what follows cost, with their white;
  ranked_onto : (o : Origin) (os : List Place) (p : Place) (ps : List Place)
      → o.cost + ranked g (suc o.pages) o.place (os ++ (p ∷ ps))
      ≡ (onto g o os).cost + ranked g (suc (onto g o os).pages) (onto g o os).place (p ∷ ps)
  unfolding ranked costs page_sum onto
  ranked_onto o [] p ps = refl
  ranked_onto o (v ∷ vs) p ps =
      let after = ranked_onto (printed g o v) vs p ps in
      let here = ap (λ b. page_cost g (suc o.pages) b v) (ended_append vs ps p) in
      let white = whites_next g o.place v (vs ++ (p ∷ ps)) in
      let lacks = ap (λ b. page_white g b o.place v) (ended_append vs ps p) in
      omega arith

  -- and the starts of what follows come before those of the opening.
  starts_onto : (o : Origin) (os ps t : List Place)
      → starts_of o.place (os ++ ps) t ≡ starts_of (onto g o os).place ps (starts_of o.place os t)
  unfolding starts_of onto
  starts_onto o [] ps t = refl
  starts_onto o (v ∷ vs) ps t = starts_onto (printed g o v) vs ps (o.place ∷ t)

  -- An opening that is a whole list ends at the full place.
  whole_onto : (o : Origin) (os : List Place) → accepts (allowed g) (sizes g) (suc o.pages) o.place (os ++ []) ≡ true
      → full g (onto g o os).place ≡ true
  unfolding accepts onto full
  whole_onto o [] h = h
  whole_onto o (v ∷ vs) h =
      whole_onto (printed g o v) vs
      (and_right (allowed g (suc o.pages) (ended (vs ++ [])) o.place v)
      (accepts (allowed g) (sizes g) (suc (suc o.pages)) v (vs ++ [])) h)

  module _ (os : List Place) (opening : Opening g os) where
    -- There is a page after an opening.
    not_all : Follows g (after g os) [] → ⊥
    unfolding accepts full
    not_all f = let t = f.taken in let l = opening.left in absurd cc

    -- The opening and what follows is a list that the rules accept,
    pub follows_accepted : (ps : List Place) → Follows g (after g os) ps → Accepted g (os ++ ps)
    follows_accepted [] f = absurd (not_all f)
    follows_accepted (p ∷ ps) f =
        record {
          some = let l = pages_onto g (beginning g) os (p ∷ ps) in omega arith;
          shaped = shaped_append (streams g) os (p ∷ ps) opening.shaped f.shaped;
          taken = accepts_onto (beginning g) os p ps ∙ and_both opening.passed f.taken;
        }

    -- and what the rules accept after the opening is such pages.
    pub accepted_follows : (ps : List Place) → Accepted g (os ++ ps) → Follows g (after g os) ps
    accepted_follows [] a =
        let w = whole_onto (beginning g) os a.taken in
        let l = opening.left in
        absurd cc
    accepted_follows (p ∷ ps) a =
        record {
          shaped = shaped_rest (streams g) os (p ∷ ps) a.shaped;
          taken = and_right (passes g (beginning g) os) _ (sym (accepts_onto (beginning g) os p ps) ∙ a.taken);
        }

    -- The turns and the white of the list are what the opening costs and what follows.
    pub turns_follow : Sane g → (ps : List Place) → Follows g (after g os) ps
        → rank (turns g (os ++ ps)) (white g (os ++ ps))
        ≡ (after g os).cost + ranked g (suc (after g os).pages) (after g os).place ps
    unfolding ranked white
    turns_follow sane [] f = absurd (not_all f)
    turns_follow sane (p ∷ ps) f =
        let same = turns_are_costs g sane (os ++ (p ∷ ps)) (follows_accepted (p ∷ ps) f).taken in
        let c = ranked_onto (beginning g) os p ps in
        omega arith

    -- Lists that begin with the opening compare as what follows does.
    pub before_follow : Sane g → Narrow g → (ps qs : List Place) → Follows g (after g os) ps → Follows g (after g os) qs
        → before_from g (after g os) (starts_of (zeros g) os []) ps qs ≡ before g (os ++ ps) (os ++ qs)
    unfolding before_from before ties then_by by
    before_follow sane narrow ps qs f h =
        let one = pages_onto g (beginning g) os ps in
        let two = pages_onto g (beginning g) os qs in
        let p : (after g os).pages + length ps ≡ length (os ++ ps) = omega arith in
        let q : (after g os).pages + length qs ≡ length (os ++ qs) = omega arith in
        let small = white_le g (os ++ ps) (follows_accepted ps f).taken in
        let small' = white_le g (os ++ qs) (follows_accepted qs h).taken in
        simp (
          ← turns_follow sane ps f,
          ← turns_follow sane qs h,
          p,
          q,
          ← starts_onto (beginning g) os ps [],
          ← starts_onto (beginning g) os qs [],
        )
        (rank_order (turns g (os ++ ps)) (white g (os ++ ps)) (turns g (os ++ qs)) (white g (os ++ qs)) _ (omega arith) (omega arith))
