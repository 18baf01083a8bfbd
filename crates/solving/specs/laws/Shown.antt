-- What the table of entries shows, and that the end is right by the choice of the last side.
use Rattle.std.specs.Prelude.{ℕ, suc, ◌-◌, ◌≤◌, ◌<◌, true, false, ◌&&◌, None, Some}
use Rattle.std.proofs.Math.Nat.{le_refl}
use Rattle.std.proofs.Common.{arith, ◌∙◌}
use Rattle.std.proofs.Math.Path.{◌≡◌, refl, sym, ap}
use mathlib.Core.List.{[]}
use Rattle.std.proofs.Math.Dec.{eqb}
use borrow.Author.Tests.{eqb-true, eq-eqb}
use Rattle.model.specs.Galley.{Galley, Place, sizes}
use Rattle.model.proofs.laws.Gather.{and_left, and_right, and_both}
use Rattle.theorems.specs.optimality.Graph as graph
use Rattle.theorems.specs.optimality.Cell.{Ahead, Offer, Cell, inner}
use Rattle.theorems.specs.pages.Graph.{side, State, stop, end, Within, Step, Prefers, price}
use Rattle.theorems.specs.pages.Laws.{page_laws}
use Rattle.places.specs.declared.Place.{Place as Start}
use Rattle.places.specs.declared.Origin.{Origin}
use Rattle.places.specs.Entry.{Entry, least}
use Rattle.places.specs.Columns.{columns, float_sizes, place_at}
use Rattle.places.proofs.laws.Best.{least_at}
use Rattle.places.proofs.laws.Columns.{columns_some}
use Rattle.places.proofs.laws.Places.{place_all, place_inside, line_at, column_at, place_same}
use Rattle.candidates.specs.Search.{Table, before, most_from, begins}
use Rattle.entries.specs.Filled.{Side}
use Rattle.walk.specs.Trace.{last_side}
use Rattle.solving.specs.Shown.{at, origin_of, graph_of, shown, finished, last_place, table_at, Proper}
use Rattle.solving.specs.laws.Last.{last_side_lem, Leads, last_leads}

-- An entry that shows a least cost holds it, with the start that is shown.
pub record Holds (g : Galley) (c : ℕ) (e : Entry) (x : ℕ) (u : State) : Type 0 where
  pub start : Start
  pub entry : e ≡ least x start
  pub shows : u ≡ stop (at g start) (before g.spec.sides c)

pub shown_least : (g : Galley) (c : ℕ) (e : Entry) (x : ℕ) (u : State) → shown g c e ≡ graph.least x u → Holds g c e x u
unfolding shown
shown_least g c None x u h = let z : ◌≡◌ {A = ℕ} 0 1 = cc in absurd (omega arith)
shown_least g c (Some l) x u h =
    let same : l.cost ≡ x = cc in
    record { start = l.start; entry = least_at same refl; shows = cc }

-- The same of the end.
pub finished_least :
    (w : State) (e : Entry) (x : ℕ) (u : State) → finished w e ≡ graph.least x u → (s : Start) × (e ≡ least x s) × (u ≡ w)
unfolding finished
finished_least w None x u h = let z : ◌≡◌ {A = ℕ} 0 1 = cc in absurd (omega arith)
finished_least w (Some l) x u h = let same : l.cost ≡ x = cc in (l.start, least_at same refl, cc)

-- The end adds nothing, wherever it is entered from.
end_free : (g : Galley) (u : State) → price g u end ≡ 0
unfolding price
end_free g (stop v c) = refl
end_free g end = refl

module _ (g : Galley) where
  last_column_lem : suc (last_place g).column ≡ columns (float_sizes g)
  last_column_lem =
      let e : (last_place g).column ≡ columns (float_sizes g) - 1 = refl in
      omega (arith, columns_some (float_sizes g))

  pub last_wide : (last_place g).column < columns (float_sizes g)
  last_wide = omega (arith, last_column_lem)

  -- All lines and the last column are the full place.
  pub full_place_lem : at g (last_place g) ≡ sizes g
  full_place_lem = place_all g (last_place g).column last_column_lem

  -- The entry of a place of the galley.
  pub shown_at : (t : Table) (i q c : ℕ) → q < columns (float_sizes g) → table_at g t (stop (place_at g i q) c) ≡ shown g c (t i q c)
  unfolding table_at
  shown_at t i q c wide = rw (line_at g i q, column_at g i q wide) refl

  module _ (from : Origin) (origin : Proper g from.place) where
    -- The full place lies in the table, on each side that occurs: no count of the origin is above it.
    pub full_within : (c : ℕ) → Side g.spec.sides c → Within g (origin_of g from) (stop (at g (last_place g)) c)
    unfolding Within
    full_within c occurs =
        rw full_place_lem (
          record { long = refl; under = λ s. le_refl _ },
          occurs,
          place_inside g from.place.line from.place.column origin.line origin.column,
        )

    -- A step to the end starts at the full place, on a side that occurs.
    record Final (u : State) : Type 0 where
      side : ℕ
      occurs : Side g.spec.sides side
      from_full : u ≡ stop (at g (last_place g)) side

    step_final : (u : State) → Step g (origin_of g from) u end → Final u
    unfolding Step Within
    step_final (stop w b) p =
        record { side = b; occurs = p.within.1; from_full = ap (λ v. stop v b) (p.whole ∙ sym full_place_lem) }
    step_final end p = absurd p

    -- The end is right by the choice of the last side: the less dear of the two, then that of even folios. It adds nothing to what the
    -- full place costs.
    pub end_right : (t : Table)
        → ((c x : ℕ) (s : Start) → Side g.spec.sides c → t (last_place g).line (last_place g).column c ≡ least x s → x ≤ most_from from)
        → Cell (graph_of g from) (most_from from) (table_at g t) end (table_at g t end)
    unfolding Step Ahead Prefers shown finished table_at
    end_right t within =
        inner (λ e. let z : ◌≡◌ {A = ℕ} 0 1 = cc in absurd (omega arith)) (record { offered = offered; best = best })
      where
        m : Start
        m = last_place g

        last : ℕ
        last = last_side g.spec.sides t (last_place g)

        whole : Place
        whole = at g (last_place g)

        offered : (c : ℕ) (u : State) → table_at g t end ≡ graph.least c u → Offer (graph_of g from) (table_at g t) end c u × (c ≤ most_from from)
        offered c u e =
            let (s, h, begun) = finished_least (stop whole last) (t m.line m.column last) c u e in
            let finish : Step g (origin_of g from) (stop whole last) end = record {
              within = full_within last (last_side_lem g.spec.sides t m);
              whole = full_place_lem;
            } in (
              record {
                may = rw begun finish;
                cost = c;
                start = stop (at g s) (before g.spec.sides last);
                reached = ap (table_at g t) begun ∙ shown_at t m.line m.column last last_wide ∙ ap (shown g last) h;
                price = omega (arith, end_free g u);
              },
              within last c s (last_side_lem g.spec.sides t m) h,
            )

        ahead : (b c : ℕ) → Leads g.spec.sides t m last b c
            → Ahead (graph_of g from) (table_at g t end) (graph.least c (stop whole b))
        ahead b c l =
            rw l.reached (l.low, λ e. (((page_laws g (origin_of g from)).tie_refl (stop whole 0)).0, λ f. l.tie e))

        best : (c : ℕ) (u : State) → Offer (graph_of g from) (table_at g t) end c u → c ≤ most_from from
            → Ahead (graph_of g from) (table_at g t end) (graph.least c u)
        best c u o _ =
            let f = step_final u o.may in
            let b = f.side in
            let at_full = sym (shown_at t m.line m.column b last_wide) ∙ ap (table_at g t) (sym f.from_full) ∙ o.reached in
            let h = shown_least g b (t m.line m.column b) o.cost o.start at_full in
            let e : c ≡ o.cost = omega (arith, o.price, end_free g u) in
            rw (f.from_full, e)
            (ahead b o.cost (last_leads g.spec.sides t m b o.cost h.start f.occurs h.entry))

-- A search begins exactly at the origin.
module _ (g : Galley) (from : Origin) where
  pub origin_here : (i q c : ℕ) → begins g.spec.sides from i q c ≡ true → stop (place_at g i q) c ≡ (graph_of g from).o
  unfolding begins
  origin_here i q c b =
      let line = eqb i from.place.line in
      let column = eqb q from.place.column in
      let on = eqb c (side g.spec.sides from.pages) in
      let rest = and_right line (column && on) b in
      let l = eqb-true i from.place.line (and_left line (column && on) b) in
      let k = eqb-true q from.place.column (and_left column on rest) in
      let s = eqb-true c (side g.spec.sides from.pages) (and_right column on rest) in
      rw (l, k, s) refl

  pub not_origin : from.place.column < columns (float_sizes g) → (i q c : ℕ) → q < columns (float_sizes g)
      → begins g.spec.sides from i q c ≡ false → ¬ (stop (place_at g i q) c ≡ (graph_of g from).o)
  unfolding begins
  not_origin column i q c wide b e =
      let p : place_at g i q ≡ at g from.place = ap place_of e in
      let d : c ≡ side g.spec.sides from.pages = ap sides_of_lem e in
      let s = place_same g i q from.place.line from.place.column wide column p in
      let both = and_both (eq-eqb i from.place.line s.0) (and_both (eq-eqb q from.place.column s.1) (eq-eqb c _ d)) in
      let z : ◌≡◌ {A = ℕ} 0 1 = cc in
      absurd (omega arith)
    where
      place_of : State → Place
      place_of (stop v d) = v
      place_of end = []

      sides_of_lem : State → ℕ
      sides_of_lem (stop v d) = d
      sides_of_lem end = 0
