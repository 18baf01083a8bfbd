-- A way's stops, read backwards, are a list that the rules accept, at the way's cost.
use Rattle.std.specs.Prelude.{ℕ, suc, ◌+◌, ◌≡◌, Bool, length}
use Rattle.std.proofs.Common.{arith, ◌∙◌}
use Rattle.std.proofs.Math.Path.{refl, sym, ap}
use Rattle.std.proofs.Math.Bool.{true, false}
use mathlib.Core.List.{List, [], ◌∷◌, ◌++◌, map}
use Rattle.model.specs.Galley.{Galley, Place, count, sizes}
use Rattle.model.specs.Answers.{same, ended}
use Rattle.model.specs.Order.{starts_of}
use Rattle.model.specs.Best.{allowed}
use Rattle.model.proofs.laws.Gather.{and_left, and_both}
use Rattle.model.proofs.laws.Rules.{kept, forward_at}
use Rattle.model.specs.laws.Judge.{accepts}
use Rattle.model.specs.laws.Lists.{Inside, AllInside}
use Rattle.model.proofs.laws.Valid.{same_true, count_sizes}
use Rattle.model.specs.laws.White.{page_white}
use Rattle.model.proofs.laws.White.{whites_next}
use Rattle.theorems.specs.optimality.Graph.{Way, total}
use Rattle.theorems.specs.turns.Waiting.{page_sum, page_cost, costs}
use Rattle.theorems.specs.turns.Rank.{rank, ranked}
use Rattle.theorems.specs.pages.Graph.{State, stop, end, side, place_of, full, Origin, Within, Step, price, page_graph, page_at, pages_to}
use Rattle.theorems.specs.pages.Sides.{side_next, allowed_side, cost_side}

module _ (g : Galley) where
  -- In an accepted list a page stops at the full place exactly where it is the last: from there no page goes forward.
  pub full_ended : (q : ℕ) (v : Place) (ps : List Place) → accepts (allowed g) (sizes g) q v ps ≡ true → full g v ≡ ended ps
  unfolding accepts full
  full_ended q v [] h = h
  full_ended q v (w ∷ ws) h = go (same v (sizes g)) refl
    where
      go : (b : Bool) → same v (sizes g) ≡ b → b ≡ false
      go false e = refl
      go true e =
          let f =
          forward_at g v w
          (kept (and_left (allowed g q (ended ws) v w) (accepts (allowed g) (sizes g) (suc q) w ws) h)).rule13 in
          let here = ap (λ x. count x f.more.0) (same_true v (sizes g) e) in
          let size = count_sizes g f.more.0 f.more.1 in
          let more = f.more.2 in
          let top = f.top f.more.0 f.more.1 in
          absurd (omega arith)

  module _ (q : ℕ) (v : Place) (after : List Place) (h : accepts (allowed g) (sizes g) (suc q) v after ≡ true) where
    -- The graph's page to v is the list's page q, where the rest of the list is accepted: the same rules,
    pub same_rules : (u : Place) → allowed g (side g.spec.sides q) (full g v) u v ≡ allowed g q (ended after) u v
    same_rules u =
        ap (λ b. allowed g (side g.spec.sides q) b u v) (full_ended (suc q) v after h)
        ∙ sym (allowed_side g q (ended after) u v)

    -- and the same cost and white.
    pub same_price : (u : Place) (b : ℕ)
        → price g (stop u b) (stop v (side g.spec.sides q))
        ≡ rank (page_cost g q (ended after) v) (page_white g (ended after) u v)
    unfolding price
    same_price u b =
        ap (λ x. rank (page_cost g (side g.spec.sides q) x v) (page_white g x u v)) (full_ended (suc q) v after h)
        ∙ ap (λ n. rank n (page_white g (ended after) u v)) (sym (cost_side g q (ended after) v))

module _ (g : Galley) (from : Origin) where
  -- On a way the side is that of the number of pages.
  pub way_side : (us : List State) (v : Place) (c : ℕ) → Way (page_graph g from) us (stop v c)
      → c ≡ side g.spec.sides (page_at from us)
  unfolding Way Step page_at
  way_side [] v c e = cc
  way_side (stop u b ∷ us) v c (p, w) =
      p.next ∙ ap (λ d. side g.spec.sides (suc d)) (way_side us u b w) ∙ side_next g.spec.sides (page_at from us)
  way_side (end ∷ us) v c (p, w) = absurd p

  -- What ps is, the list of a way to v and then of the pages `after`.
  pub record Reads (us : List State) (v : Place) (c : ℕ) (after ps : List Place) : Type 0 where
    pub taken : accepts (allowed g) (sizes g) (suc from.pages) from.place ps ≡ true
    pub inside : AllInside (sizes g) ps
    pub cost : from.cost + ranked g (suc from.pages) from.place ps
        ≡ total (page_graph g from) us (stop v c) + ranked g (suc (page_at from us)) v after
    pub long : from.pages + length ps ≡ page_at from us + length after
    pub starts : (t : List Place) → starts_of from.place ps t ≡ starts_of v after (map place_of us ++ t)

  -- The list of a way, put before an accepted list, is accepted.
  pub reads : (us : List State) (v : Place) (c : ℕ) (after : List Place) → Way (page_graph g from) us (stop v c)
      → Inside (sizes g) v → AllInside (sizes g) after → accepts (allowed g) (sizes g) (suc (page_at from us)) v after ≡ true
      → Reads us v c after (pages_to us (stop v c) after)
  unfolding Way Step total ranked costs page_sum pages_to starts_of accepts Within place_of page_at
  reads [] v c after e i is h =
      let z : v ≡ from.place = cc in
      record { taken = cc; inside = is; cost = rw z refl; long = refl; starts = λ t. ap (λ x. starts_of x after t) (sym z) }
  reads (stop u b ∷ us) v c after (p, w) i is h =
      let s = way_side (stop u b ∷ us) v c (p, w) in
      let may : allowed g (suc (page_at from us)) (ended after) u v ≡ true =
      sym (same_rules g (suc (page_at from us)) v after h u) ∙ ap (λ d. allowed g d (full g v) u v) (sym s) ∙ p.may in
      let r = reads us u b (v ∷ after) w p.within.0 (i, is) (and_both may h) in
      let page : price g (stop u b) (stop v c)
      ≡ rank (page_cost g (suc (page_at from us)) (ended after) v) (page_white g (ended after) u v) =
      ap (λ d. price g (stop u b) (stop v d)) s ∙ same_price g (suc (page_at from us)) v after h u b in
      let white = whites_next g u v after in
      let cost = r.cost in
      let long = r.long in
      record {
        taken = r.taken;
        inside = r.inside;
        cost = omega arith;
        long = omega arith;
        starts = r.starts;
      }
  reads (end ∷ us) v c after (p, w) i is h = absurd p
