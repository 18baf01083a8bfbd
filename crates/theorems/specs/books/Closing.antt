-- The best list that closes on a side: a right table tells it at the full place on that side, as it tells the best list of all at the end.
use Rattle.std.specs.Prelude.{ℕ, ◌≤◌, ◌≡◌, Bool, true, false, eqb}
use Rattle.std.proofs.Math.Nat.{le_refl}
use native.Mathlib.Omega.{arith}
use Rattle.std.proofs.Math.Path.{refl, sym, ap}
use Rattle.std.proofs.Common.{◌∙◌, eqb-true, eq-eqb}
use mathlib.Core.List.{List, [], ◌∷◌, map, append-nil, tail-eq_of_cons-eq}
use Rattle.std.proofs.Math.Option.{Option, none, some}
use Rattle.std.proofs.Math.ListN.{length}
use Rattle.model.specs.Galley.{Galley, Place, Sane, count, zeros, sizes}
use Rattle.model.specs.Turns.{turns}
use Rattle.model.specs.White.{white}
use Rattle.model.specs.Order.{starts_of, before}
use Rattle.model.specs.Answers.{same}
use Rattle.model.specs.Best.{keep, valid, first_of}
use Rattle.model.specs.laws.Lists.{◌∈◌}
use Rattle.model.proofs.laws.Lists.{∈-keep, ∈-kept}
use Rattle.model.proofs.laws.Valid.{same_true, count_sizes, count_zeros, Accepted, valid_accepted}
use Rattle.model.proofs.laws.Best.{LeastOf, MakesOf, first_makes, first_is, first_none}
use Rattle.theorems.specs.optimality.Graph.{unreached, least, Way, total, First}
use Rattle.theorems.specs.optimality.Cell.{Table, Right, Trace, Answer}
use Rattle.theorems.specs.optimality.Theorem.{optimality}
use Rattle.theorems.specs.turns.Rank.{rank}
use Rattle.theorems.specs.turns.Bounds.{Limits, Narrow, dearest_list, list_limit}
use Rattle.theorems.specs.pages.Graph.{State, stop, end, side, place_of, full, Within, Step, price, beginning, page_graph, page_at, pages_on, way_of}
use Rattle.theorems.specs.pages.Laws.{page_laws, page_domain}
use Rattle.theorems.specs.pages.Ways.{way_side}
use Rattle.theorems.specs.pages.Lists.{way_ends, way_follows, way_costs, list_way, list_pages, zeros_inside, past_beginning}
use Rattle.theorems.specs.pages.Ties.{before_ways}
use Rattle.theorems.specs.pages.Opening.{passes, onto, Opening}
use Rattle.theorems.specs.pages.Following.{follows_accepted, accepted_follows, turns_follow, before_follow}

-- The valid lists that close on side c (document 02, S-9: a chapter ends on one side or the other).
unfoldable pub closing : Galley → ℕ → List (List Place)
closing g c = keep (λ ps. eqb (side g.spec.sides (length ps)) c) (valid g)

-- The best of them.
unfoldable pub best_closing : Galley → ℕ → Option (List Place)
best_closing g c = first_of (before g) (closing g c)

-- A list closes on a side where it is valid and its last page is on that side.
pub closing_valid : (g : Galley) (c : ℕ) (ps : List Place) → ps ∈ closing g c → (ps ∈ valid g) × (side g.spec.sides (length ps) ≡ c)
unfolding closing
closing_valid g c ps m =
    let k = ∈-kept (λ ps. eqb (side g.spec.sides (length ps)) c) ps (valid g) m in (k.0, eqb-true _ c k.1)

pub valid_closing : (g : Galley) (c : ℕ) (ps : List Place) → ps ∈ valid g → side g.spec.sides (length ps) ≡ c → ps ∈ closing g c
unfolding closing
valid_closing g c ps m e = ∈-keep _ ps (valid g) m (eq-eqb _ c e)

module _ (g : Galley) (c : ℕ) where
  closing_accepted : (ps : List Place) → ps ∈ closing g c → Accepted g ps
  closing_accepted ps m = (valid_accepted g ps).0 (closing_valid g c ps m).0

  -- There is none, or the best is the least one.
  pub closing_makes : MakesOf g (closing g c) (best_closing g c)
  unfolding best_closing
  closing_makes = first_makes g (closing g c) closing_accepted

  closing_is : (ps : List Place) → LeastOf g (closing g c) ps → best_closing g c ≡ some ps
  unfolding best_closing
  closing_is = first_is g (closing g c) closing_accepted

  closing_none : ((ps : List Place) → ps ∈ closing g c → ⊥) → best_closing g c ≡ none
  unfolding best_closing
  closing_none = first_none g (closing g c) closing_accepted

-- Nothing printed is an opening, since there is a line to place.
nothing : (g : Galley) → Sane g → Opening g []
unfolding passes onto full
nothing g sane = record { shaped = tt; passed = refl; left = go (same (zeros g) (sizes g)) refl }
  where
    go : (b : Bool) → same (zeros g) (sizes g) ≡ b → same (zeros g) (sizes g) ≡ false
    go false e = e
    go true e =
        let counts = ap (λ v. count v 0) (same_true (zeros g) (sizes g) e) in
        absurd (omega (arith, count_sizes g 0 (omega arith), count_zeros g 0 (omega arith), sane.lined))

module _ (g : Galley) (sane : Sane g) (narrow : Narrow g) (c : ℕ) (occurs : side g.spec.sides c ≡ c) where
  -- The full place on side c.
  abbrev closed : State
  closed = stop (sizes g) c

  closed_within : Within g (beginning g) closed
  unfolding Within
  closed_within =
      (record { long = refl; under = λ s. le_refl _ }, occurs, past_beginning g (sizes g) (record { long = refl; under = λ s. le_refl _ }))

  -- A way there is one step from the end.
  way_on : (us : List State) → Way (page_graph g (beginning g)) us closed → Way (page_graph g (beginning g)) (closed ∷ us) end
  unfolding Way Step
  way_on us w = (record { within = closed_within; whole = refl }, w)

  -- Its list is valid and closes on side c,
  way_closing : (us : List State) → Way (page_graph g (beginning g)) us closed → pages_on (closed ∷ us) ∈ closing g c
  unfolding onto
  way_closing us w =
      let x = way_on us w in
      let e = way_ends g (beginning g) (closed ∷ us) x in
      let f = way_follows g (beginning g) (closed ∷ us) x in
      let l = e.last in
      let is : c ≡ e.side = cc in
      let long : length (pages_on (closed ∷ us)) ≡ page_at (beginning g) e.stops = let k = e.read.long in omega arith in
      valid_closing g c _ ((valid_accepted g _).1 (follows_accepted g [] (nothing g sane) _ f))
      (ap (side g.spec.sides) long ∙ sym (way_side g (beginning g) e.stops (sizes g) e.side e.way) ∙ sym is)

  -- its starts are the places where the way stops,
  way_starts : (us : List State) → Way (page_graph g (beginning g)) us closed → starts_of (zeros g) (pages_on (closed ∷ us)) [] ≡ map place_of us
  unfolding starts_of
  way_starts us w =
      let e = way_ends g (beginning g) (closed ∷ us) (way_on us w) in
      let l = e.last in
      let same : e.stops ≡ us = sym (tail-eq_of_cons-eq l) in
      e.read.starts [] ∙ append-nil (map place_of e.stops) ∙ ap (map place_of) same

  -- and every such list is that of a way there.
  closing_way : (qs : List Place) → qs ∈ closing g c
      → (us : List State) × Way (page_graph g (beginning g)) us closed × (qs ≡ pages_on (closed ∷ us))
  unfolding onto
  closing_way qs m =
      let (v, s) = closing_valid g c qs m in
      let f = accepted_follows g [] (nothing g sane) qs ((valid_accepted g qs).0 v) in
      let x = list_way g (beginning g) (zeros_inside g) qs f in
      let p = list_pages g (beginning g) qs in
      let e = way_ends g (beginning g) (way_of g (beginning g) qs) x in
      let l = e.last in
      let long : length qs ≡ page_at (beginning g) e.stops = let k = e.read.long in let r = ap length p in omega arith in
      let d : e.side ≡ c = way_side g (beginning g) e.stops (sizes g) e.side e.way ∙ ap (side g.spec.sides) (sym long) ∙ s in
      (e.stops, rw d at e.way, sym p ∙ ap pages_on (l ∙ ap (λ b. stop (sizes g) b ∷ e.stops) d))

  -- Of two ways there the one with the preferred list costs no more, and where it costs as much it is the first.
  before_closing : (us ws : List State) → Way (page_graph g (beginning g)) us closed → Way (page_graph g (beginning g)) ws closed
      → (total (page_graph g (beginning g)) us closed ≤ total (page_graph g (beginning g)) ws closed)
      × (total (page_graph g (beginning g)) ws closed ≡ total (page_graph g (beginning g)) us closed → First (page_graph g (beginning g)) us ws)
      → before g (pages_on (closed ∷ us)) (pages_on (closed ∷ ws)) ≡ true
  unfolding total price First onto starts_of
  before_closing us ws w x (l, f) =
      let y = way_on us w in
      let z = way_on ws x in
      let same =
      before_follow g [] (nothing g sane) sane narrow (pages_on (closed ∷ us)) (pages_on (closed ∷ ws))
      (way_follows g (beginning g) (closed ∷ us) y) (way_follows g (beginning g) (closed ∷ ws) z) in
      sym same
      ∙ (before_ways g (beginning g) [] (closed ∷ us) (closed ∷ ws) y z).1
      (omega arith, λ e. ((page_laws g (beginning g)).tie_refl closed, λ q. f (omega arith)))

  -- A way there costs the turns and the white of its list.
  closed_costs : (us : List State) → Way (page_graph g (beginning g)) us closed
      → rank (turns g (pages_on (closed ∷ us))) (white g (pages_on (closed ∷ us))) ≡ total (page_graph g (beginning g)) us closed
  unfolding onto total price
  closed_costs us w =
      let x = way_on us w in
      let same = turns_follow g [] (nothing g sane) sane (pages_on (closed ∷ us)) (way_follows g (beginning g) (closed ∷ us) x) in
      let costs = way_costs g (beginning g) (closed ∷ us) x in
      omega arith

  module _ (most : ℕ) (D : Table (page_graph g (beginning g)))
      (right : Right (page_graph g (beginning g)) most D (Within g (beginning g))) where
    tells : Answer (page_graph g (beginning g)) most D closed (D closed)
    tells = optimality (page_graph g (beginning g)) (page_laws g (beginning g)) (page_domain g (beginning g)) most D right closed closed_within

    -- Where the full place is unreached on that side within what any list can cost, no valid list closes on it.
    pub closing_empty : Limits g → dearest_list ≤ most → D closed ≡ unreached → best_closing g c ≡ none
    closing_empty limits enough e =
        closing_none g c
        (λ qs m.
        let (us, w, is) = closing_way qs m in
        let low = list_limit g sane limits qs (closing_accepted g c qs m).taken in
        let costs = ap (λ ps. rank (turns g ps) (white g ps)) is ∙ closed_costs us w in
        tells.none e us w (omega arith))

    -- Where it is reached the walk back from it meets the best list that does, and its entry holds the turns and the white.
    pub closing_best : (cost : ℕ) (u : State) → D closed ≡ least cost u
        → (us : List State) × Trace (page_graph g (beginning g)) D us closed × (best_closing g c ≡ some (pages_on (closed ∷ us)))
        × (rank (turns g (pages_on (closed ∷ us))) (white g (pages_on (closed ∷ us))) ≡ cost)
        × (starts_of (zeros g) (pages_on (closed ∷ us)) [] ≡ map place_of us)
    closing_best cost u e =
        let (us, w) = tells.found cost u e in
        let way = w.optimal.way in (
          us,
          w.trace,
          closing_is g c (pages_on (closed ∷ us)) (record {
            lawful = way_closing us way;
            ahead = λ qs m.
                let (ws, y, q) = closing_way qs m in
                rw q (before_closing us ws way y (w.optimal.cheapest ws y, w.optimal.first ws y));
          }),
          closed_costs us way ∙ w.cost,
          way_starts us way,
        )
