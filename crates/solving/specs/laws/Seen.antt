-- The search finds the best start, so that the entry of a place is right as the graph of pages has it, for any number of float
-- streams and any origin.
use Rattle.std.specs.Prelude.{ℕ, suc, ◌+◌, ◌≤◌, ◌<◌, Bool, ◌&&◌, None, Some}
use Rattle.std.proofs.Math.Nat.{le_refl}
use native.Mathlib.Omega.{arith}
use Rattle.std.proofs.Math.Path.{◌≡◌, refl, ap}
use Rattle.std.proofs.Common.{sym, ◌∙◌}
use Rattle.std.proofs.Math.Bool.{true, false}
use Rattle.model.specs.Gather.{pick}
use Rattle.model.specs.Galley.{Sides, single, double, Galley, Place, count}
use Rattle.model.specs.Rules.{forward, closes, fits, fills, cited}
use Rattle.model.proofs.laws.Gather.{and_left, and_right, and_both}
use Rattle.model.proofs.laws.Rules.{kept, kept_allowed}
use Rattle.model.specs.laws.White.{page_white}
use Rattle.theorems.specs.turns.Waiting.{page_cost}
use Rattle.theorems.specs.turns.Rank.{rank}
use Rattle.theorems.specs.optimality.Graph as graph
use Rattle.theorems.specs.optimality.Cell.{Ahead, Offer, Seen, Cell}
use Rattle.theorems.specs.optimality.Storing.{none_reached}
use Rattle.theorems.specs.pages.Graph.{side, State, stop, end, full, Within, Step, price, Prefers}
use Rattle.places.specs.declared.Place.{Place as Start}
use Rattle.places.specs.declared.Origin.{Origin}
use Rattle.places.specs.Entry.{Entry, least}
use Rattle.places.specs.Best.{Leads, Best}
use Rattle.places.specs.Columns.{columns, float_sizes, place_at, column_in}
use Rattle.places.proofs.laws.Places.{place_inside, line_at, column_at, place_of, place_tie, forward_earlier}
use Rattle.candidates.specs.Search.{Table, before, Search, goes, white_from, best_start, most_from, priced, may_stop, begins, new_entry}
use Rattle.candidates.specs.Choice.{Candidate, Starts, Any}
use Rattle.candidates.proofs.laws.Found.{best_start_lem}
use Rattle.candidates.proofs.laws.Priced.{priced_within, priced_least}
use Rattle.candidates.proofs.laws.Pages.{candidate_earlier}
use Rattle.entries.specs.Filled.{Side, Filled}
use Rattle.entries.specs.laws.Entered.{side_before}
use Rattle.solving.specs.Shown.{at, origin_of, graph_of, shown, table_at, Proper}
use Rattle.solving.specs.laws.Shown.{shown_at, shown_least, origin_here, not_origin}

-- A page on side c follows one on the side before it, and no other.
side_after : (sides : Sides) (c : ℕ) → Side sides c → c ≡ side sides (suc (before sides c))
unfolding side before
side_after single c h = sym h
side_after (double f) c h = omega arith

side_only : (sides : Sides) (c e : ℕ) → side sides e ≡ e → c ≡ side sides (suc e) → e ≡ before sides c
unfolding side before
side_only single c e h k = sym h
side_only (double f) c e h k = omega arith

-- What is seen of line i and column q on side c, the end of a page.
module _ (g : Galley) (from : Origin) (origin : Proper g from.place) (t : Table) (i q c : ℕ) (high : i ≤ (g.stream 0).size)
    (wide : q < columns (float_sizes g)) (occurs : Side g.spec.sides c) (fill : Filled g from t i q) where
  here : State
  here = stop (place_at g i q) c

  search : Search
  search = record { galley = g; table = t; line = i; column = q; side = before g.spec.sides c }

  cost : ℕ
  cost = rank (page_cost g c (full g (place_at g i q)) (place_at g i q)) 0

  -- The white of the page from a place.
  lacks : Place → ℕ
  lacks u = page_white g (full g (place_at g i q)) u (place_at g i q)

  -- An entry, with the rest of the page's price added, as the graph has it.
  now : Entry → graph.Entry ℕ State
  now e = shown g c (priced (most_from from) cost e)

  begun : ℕ → ℕ → State
  begun a b = stop (place_at g a b) (before g.spec.sides c)

  -- What holds of a start that has a page to here.
  record HasPage (u : Place) (e : ℕ) : Type 0 where
    shape : u ≡ place_at g (count u 0) (column_in g u)
    on_side : e ≡ before g.spec.sides c
    low : count u 0 ≤ i
    left : column_in g u ≤ q
    page : goes search (count u 0) (column_in g u) ≡ true
    may : may_stop g i q c ≡ true

  has_page : (u : Place) (e : ℕ) → Step g (origin_of g from) (stop u e) here → HasPage u e
  unfolding Step Within here search goes may_stop
  has_page u e p =
      let k = kept p.may in
      let f = forward_earlier g u (place_at g i q) p.within.0 (place_inside g i q high wide) k.rule13 in
      let s = (place_of g u p.within.0).is in
      let line = line_at g i q in
      let column = column_at g i q wide in
      record {
        shape = s;
        on_side = side_only g.spec.sides c e p.within.1 p.next;
        low = omega (arith, f.0);
        left = omega (arith, f.1);
        page = rw (← s) (and_both k.rule13 (and_both k.rule15 k.rule16));
        may = and_both k.rule14 k.rule17;
      }

  -- A start that the search weighs has a page to here: it is past the origin, as every entry filled before.
  page_from : (a b x : ℕ) → Candidate search a b x → may_stop g i q c ≡ true → Step g (origin_of g from) (begun a b) here
  unfolding Step Within here begun may_stop search goes
  page_from a b x d may =
      let u = place_at g a b in
      let v = place_at g i q in
      let l = d.line in
      let k = d.column in
      let rest = and_right (forward g u v) (fits g u v && fills g (full g v) u v) d.page in
      let before = side_before g.spec.sides c occurs in
      let earlier = candidate_earlier search (record { high = high; wide = wide }) a b x d in
      record {
        within = (
          place_inside g a b (omega arith) (omega arith),
          before,
          (fill.entered a b _ d.reached.own d.reached.start earlier (omega arith) before d.reached.entry).past,
        );
        next = side_after g.spec.sides c occurs;
        may =
            kept_allowed
            (record {
              rule13 = and_left (forward g u v) (fits g u v && fills g (full g v) u v) d.page;
              rule14 = and_left (closes g v) (cited g c (full g v) v) may;
              rule15 = and_left (fits g u v) (fills g (full g v) u v) rest;
              rule16 = and_right (fits g u v) (fills g (full g v) u v) rest;
              rule17 = and_right (closes g v) (cited g c (full g v) v) may;
            });
      }

  -- A start with a page to here that the table has reached is one that the search weighs.
  candidate : (u : Place) (e : ℕ) → HasPage u e → (x : ℕ) (r : Start) → t (count u 0) (column_in g u) e ≡ least x r
      → Candidate search (count u 0) (column_in g u) (x + lacks u)
  unfolding search lacks white_from
  candidate u e st x r h =
      record {
        line = st.low;
        column = st.left;
        page = st.page;
        reached = record {
          own = x;
          start = r;
          entry = rw (← st.on_side) h;
          whole = ap (λ w. x + page_white g (full g (place_at g i q)) w (place_at g i q)) st.shape;
        };
      }

  module _ (may : may_stop g i q c ≡ true) where
    -- The best start, with the price of the page, is offered by the graph within what the search looks for,
    offered : (e : Entry) → Best (Starts search Any) e → (x : ℕ) (u : State) → now e ≡ graph.least x u
        → Offer (graph_of g from) (table_at g t) here x u × (x ≤ most_from from)
    unfolding now shown search here price cost begun white_from
    offered e best x u h =
        let shows = shown_least g c (priced (most_from from) cost e) x u h in
        let r = shows.start in
        let paid = priced_least (most_from from) cost e x r shows.entry in
        let d = (best.may paid.own r paid.entry).1 in
        let left = d.column in
        let side = before g.spec.sides c in (
          rw shows.shows
              (record {
                may = page_from r.line r.column paid.own d may;
                cost = d.reached.own;
                start = stop (at g d.reached.start) (before g.spec.sides side);
                reached = shown_at g t r.line r.column side (omega arith) ∙ ap (shown g side) d.reached.entry;
                price = omega (arith, d.reached.whole, paid.whole);
              }),
          paid.within,
        )

    -- and no offer is ahead of it.
    ahead : (e : Entry) → Best (Starts search Any) e → (a b y : ℕ) → b ≤ q → y + cost ≤ most_from from → Leads e a b y
        → Ahead (graph_of g from) (now e) (graph.least (y + cost) (begun a b))
    unfolding now shown Leads Ahead Prefers begun search
    ahead None best a b y k m l = absurd l
    ahead (Some n) best a b y k m (l, f) =
        let left = (best.may n.cost n.start refl).1.column in
        rw (priced_within (most_from from) cost n.cost n.start (omega arith)) (
          omega arith,
          λ e. (
            (place_tie g n.start.line n.start.column a b (omega arith) (omega arith)).1 (f (omega arith)),
            λ _. (le_refl _, λ _. le_refl _),
          ),
        )

    best_ahead : (e : Entry) → Best (Starts search Any) e → (x : ℕ) (u : State) → Offer (graph_of g from) (table_at g t) here x u
        → x ≤ most_from from → Ahead (graph_of g from) (now e) (graph.least x u)
    unfolding here Step table_at price cost shown begun lacks
    best_ahead e best x (stop u d) o most = go (t (count u 0) (column_in g u) d) refl
      where
        st : HasPage u d
        st = has_page u d o.may

        go : (f : Entry) → t (count u 0) (column_in g u) d ≡ f → Ahead (graph_of g from) (now e) (graph.least x (stop u d))
        go None h =
            let r : graph.unreached ≡ graph.least o.cost o.start = sym (ap (shown g d) h) ∙ o.reached in
            let z : ◌≡◌ {A = ℕ} 0 1 = cc in
            absurd (omega arith)
        go (Some l) h =
            let is : graph.least l.cost (stop (at g l.start) (before g.spec.sides d)) ≡ graph.least o.cost o.start =
            sym (ap (shown g d) h) ∙ o.reached in
            let same : l.cost ≡ o.cost = cc in
            let price = o.price in
            let sum : l.cost + lacks u + cost ≡ x = omega arith in
            let begins : begun (count u 0) (column_in g u) ≡ stop u d = cc (st.shape, st.on_side) in
            rw (← sum, ← begins)
            (ahead e best (count u 0) (column_in g u) (l.cost + lacks u) st.left (omega arith)
            (best.leads (count u 0) (column_in g u) (l.cost + lacks u) (tt, candidate u d st l.cost l.start h)))
    best_ahead e best x end o most = absurd o.may

    -- So what the search finds is the best of all starts.
    best_seen : Seen (graph_of g from) (most_from from) (table_at g t) here (now (best_start search))
    best_seen =
        record { offered = offered (best_start search) (best_start_lem search); best = best_ahead (best_start search) (best_start_lem search) }

  -- Where no page may end here, nothing has a page to it.
  none_seen : may_stop g i q c ≡ false → Seen (graph_of g from) (most_from from) (table_at g t) here (now None)
  unfolding now priced shown here
  none_seen shut = none_reached (graph_of g from) (most_from from) (table_at g t) none
    where
      never : (u : Place) (d : ℕ) → HasPage u d → ⊥
      never u d st = let m = st.may in let z : ◌≡◌ {A = ℕ} 0 1 = cc in omega arith

      none : (u : State) → Step g (origin_of g from) u (stop (place_at g i q) c) → table_at g t u ≡ graph.unreached
      none (stop u d) st = absurd (never u d (has_page u d st))
      none end st = unfold Step in absurd st

  -- The entry that line i and column q get on side c is right.
  pub entry_cell : Cell (graph_of g from) (most_from from) (table_at g t) (stop (place_at g i q) c) (shown g c (new_entry g from t i q c))
  unfolding new_entry here now search cost shown priced
  entry_cell = go (begins g.spec.sides from i q c) refl (may_stop g i q c) refl
    where
      go : (a : Bool) → begins g.spec.sides from i q c ≡ a → (b : Bool) → may_stop g i q c ≡ b
          → Cell (graph_of g from) (most_from from) (table_at g t) (stop (place_at g i q) c)
          (shown g c (pick a (least from.cost from.place) (pick b (priced (most_from from) cost (best_start search)) None)))
      go true e b m = Cell.base (origin_here g from i q c e) (stop (at g from.place) (before g.spec.sides c)) refl
      go false e true m = Cell.inner (not_origin g from origin.column i q c wide e) (best_seen m)
      go false e false m = Cell.inner (not_origin g from origin.column i q c wide e) (none_seen m)
