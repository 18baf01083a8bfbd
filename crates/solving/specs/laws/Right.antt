-- After filling, every place's entry is right: the least cost of any list of pages from the origin that ends there, and the
-- preferred start.
use Prim.Native.Nat.{ℕ, zero, suc, ◌+◌, ◌≤◌, ◌<◌}
use Rattle.std.proofs.Math.Decide.{dec_lt}
use native.Mathlib.Omega.{arith}
use Rattle.std.specs.Prelude.{◌≡◌, ◌⊎◌}
use Rattle.std.proofs.Common.{◌∙◌}
use Rattle.std.proofs.Math.Path.{ap}
use Rattle.std.proofs.Math.Logic.{inl, inr}
use Rattle.model.specs.Galley.{Galley, Place, count, sizes}
use Rattle.model.proofs.laws.Rules.{kept}
use Rattle.model.specs.laws.Lists.{Inside}
use Rattle.theorems.specs.optimality.Graph as graph
use Rattle.theorems.specs.optimality.Cell.{Cell, base, inner, Right}
use Rattle.theorems.specs.optimality.Storing as storing
use Rattle.theorems.specs.pages.Graph.{State, stop, end, Within, Step}
use Rattle.places.specs.declared.Origin.{Origin}
use Rattle.places.specs.Order.{Earlier}
use Rattle.places.specs.Columns.{columns, float_sizes, place_at, column_in}
use Rattle.places.specs.Entry.{cleared}
use Rattle.places.proofs.laws.Cleared.{cleared_length}
use Rattle.places.proofs.laws.Places.{place_inside, line_at, column_at, place_of, forward_earlier}
use Rattle.entries.specs.Fill.{Words, held, fill_side, fill_sides, side_count, fill_place, table_words}
use Rattle.filling.specs.Fill.{fill_column, fill_columns, filled}
use Rattle.entries.specs.Filled.{Roomy, Side, Light, Filled}
use Rattle.entries.specs.laws.Entered.{side_low, side_below, below_side}
use Rattle.entries.specs.laws.Fill.{length_sides, length_place, room_kept, side_same, side_other, earlier_next, filled_keeps, filled_place}
use Rattle.filling.specs.laws.Fill.{length_column, earlier_column, filled_start, filled_next}
use Rattle.candidates.specs.Search.{most_from}
use Rattle.solving.specs.Shown.{at, origin_of, graph_of, shown, last_place, table_at, AllRight, Proper}
use Rattle.solving.specs.laws.Shown.{shown_at, last_wide, full_within, end_right}
use Rattle.solving.specs.laws.Seen.{entry_cell}

-- A place of the table is one of the galley, and its side occurs.
inside_of : (g : Galley) (from : Origin) (v : Place) (c : ℕ) → Within g (origin_of g from) (stop v c) → Inside (sizes g) v
unfolding Within
inside_of g from v c h = h.0

sides_in_lem : (g : Galley) (from : Origin) (v : Place) (c : ℕ) → Within g (origin_of g from) (stop v c) → Side g.spec.sides c
unfolding Within
sides_in_lem g from v c h = h.1

-- The states filled so far: those of places before (i, q), and of (i, q) on sides below k.
unfoldable pub Done : Galley → Origin → ℕ → ℕ → ℕ → State → Type 0
Done g from i q k (stop v c) =
    Within g (origin_of g from) (stop v c)
    × (Earlier (count v 0) (column_in g v) i q ⊎ ((count v 0 ≡ i) × (column_in g v ≡ q) × (c < k)))
Done g from i q k end = ⊥

-- Their entries are right, and every entry filled so far keeps what entries keep.
pub record Sofar (g : Galley) (from : Origin) (w : Words) (i q k : ℕ) : Type 0 where
  pub entered : Filled g from (held g w) i q
  pub right : Right (graph_of g from) (most_from from) (table_at g (held g w)) (Done g from i q k)

earlier_trans : (a b p r i q : ℕ) → Earlier a b p r → Earlier p r i q → Earlier a b i q
earlier_trans a b p r i q (inl l) (inl m) = inl (omega arith)
earlier_trans a b p r i q (inl l) (inr (e, m)) = inl (omega arith)
earlier_trans a b p r i q (inr (e, l)) (inl m) = inl (omega arith)
earlier_trans a b p r i q (inr (e, l)) (inr (f, m)) = inr (omega arith, omega arith)

module _ (g : Galley) (from : Origin) (origin : Proper g from.place) (light : Light g) where
  -- A page starts at an earlier place than it ends.
  step_earlier : (u v : Place) (b c : ℕ) → Inside (sizes g) v → Step g (origin_of g from) (stop u b) (stop v c)
      → Earlier (count u 0) (column_in g u) (count v 0) (column_in g v)
  unfolding Step
  step_earlier u v b c h p = (forward_earlier g u v (inside_of g from u b p.within) h (kept p.may).rule13).2

  -- Whatever starts a page to a place filled so far is filled so far.
  done_closed : (i q k : ℕ) (s t : State) → Done g from i q k t → Step g (origin_of g from) s t → Done g from i q k s
  unfolding Done Step
  done_closed i q k (stop u b) (stop v c) d p = (p.within, inl (go d.1))
    where
      before : Earlier (count u 0) (column_in g u) (count v 0) (column_in g v)
      before = step_earlier u v b c (inside_of g from v c d.0) p

      go : Earlier (count v 0) (column_in g v) i q ⊎ ((count v 0 ≡ i) × (column_in g v ≡ q) × (c < k))
          → Earlier (count u 0) (column_in g u) i q
      go (inl l) = earlier_trans (count u 0) (column_in g u) (count v 0) (column_in g v) i q before l
      go (inr (x, y, z)) = rw (← x, ← y) before
  done_closed i q k (stop u b) end d p = absurd d
  done_closed i q k end t d p = absurd p

  module _ (i q : ℕ) (high : i ≤ (g.stream 0).size) (wide : q < columns (float_sizes g)) where
    -- One side of (i, q) filled.
    right_side : (c : ℕ) (w : Words) → Roomy g w → Side g.spec.sides c → Sofar g from w i q c
        → Right (graph_of g from) (most_from from) (table_at g (held g (fill_side g from i q c w))) (Done g from i q (suc c))
    unfolding Done table_at
    right_side c w room occurs sofar =
        storing.stored (graph_of g from) (most_from from) (table_at g (held g w)) (table_at g (held g w')) (done_closed i q c) starts_done only same sofar.right
        (rw (shown_at g (held g w') i q c wide, side_same g from i q c w room high wide low)
        (entry_cell g from origin (held g w) i q c high wide occurs sofar.entered))
      where
        w' : Words
        w' = fill_side g from i q c w

        low : c ≤ 1
        low = side_low g.spec.sides c occurs

        starts_done : (s : State) → Step g (origin_of g from) s (stop (place_at g i q) c) → Done g from i q c s
        starts_done (stop u b) p =
            let e = step_earlier u (place_at g i q) b c (place_inside g i q high wide) p in
            (unfold Step in p.within, inl (rw (line_at g i q, column_at g i q wide) at e))
        starts_done end p = absurd (unfold Step in p)

        only : (s : State) → Done g from i q (suc c) s → Done g from i q c s ⊎ (s ≡ stop (place_at g i q) c)
        only (stop v d) (h, inl l) = inl (h, inl l)
        only (stop v d) (h, inr (x, y, z)) = go (dec_lt d c)
          where
            go : Dec (d < c) → Done g from i q c (stop v d) ⊎ (stop v d ≡ stop (place_at g i q) c)
            go (yes m) = inl (h, inr (x, y, m))
            go (no m) =
                let e : d ≡ c = omega arith in
                inr (cc (place_of g v (inside_of g from v d h)).is)
        only end d = absurd d

        other : (a b d : ℕ) → Earlier a b i q ⊎ ((a ≡ i) × (b ≡ q) × (d < c)) → (i ≡ a) × (q ≡ b) × (c ≡ d) → ⊥
        other a b d (inl (inl l)) (x, y, z) = omega arith
        other a b d (inl (inr (e, l))) (x, y, z) = omega arith
        other a b d (inr (p, r, l)) (x, y, z) = omega arith

        same : (s : State) → Done g from i q c s → table_at g (held g w') s ≡ table_at g (held g w) s
        same (stop v d) (h, l) =
            ap (shown g d)
            (side_other g from i q c w room high wide low (count v 0) (column_in g v) d (place_of g v (inside_of g from v d h)).line
            (side_low g.spec.sides d (sides_in_lem g from v d h)) (other (count v 0) (column_in g v) d l))
        same end d = absurd d

    -- So many sides of (i, q) filled.
    right_sides : (w : Words) → Roomy g w → Sofar g from w i q 0 → (n : ℕ) → n ≤ side_count g.spec.sides
        → Sofar g from (fill_sides g from i q n w) i q n
    unfolding fill_sides
    right_sides w room sofar zero m = sofar
    right_sides w room sofar (suc n) m =
        let before = right_sides w room sofar n (omega arith) in
        let roomy = room_kept (length_sides g from i q n w) room in
        let occurs = below_side g.spec.sides n m in
        record {
          entered =
              filled_keeps g light from i q high wide n (fill_sides g from i q n w) roomy (side_low g.spec.sides n occurs)
              before.entered;
          right = right_side n (fill_sides g from i q n w) roomy occurs before;
        }

    -- The sides of (i, q) that occur are all that stand before the place below it, beside what is earlier.
    done_next : (s : State) → Done g from (suc i) q 0 s → Done g from i q (side_count g.spec.sides) s
    unfolding Done
    done_next (stop v c) (h, inl e) = (h, go (earlier_next (count v 0) (column_in g v) i q e))
      where
        go : Earlier (count v 0) (column_in g v) i q ⊎ ((count v 0 ≡ i) × (column_in g v ≡ q))
            → Earlier (count v 0) (column_in g v) i q ⊎ ((count v 0 ≡ i) × (column_in g v ≡ q) × (c < side_count g.spec.sides))
        go (inl l) = inl l
        go (inr (x, y)) = inr (x, y, side_below g.spec.sides c (sides_in_lem g from v c h))
    done_next (stop v c) (h, inr (x, y, z)) = absurd (omega arith)
    done_next end d = d

    right_place : (w : Words) → Roomy g w → Sofar g from w i q 0 → Sofar g from (fill_place g from i q w) (suc i) q 0
    unfolding fill_place
    right_place w room sofar =
        record {
          entered = unfold fill_place in filled_place g light from i q high wide w room sofar.entered;
          right = λ s d. (right_sides w room sofar (side_count g.spec.sides) (omega arith)).right s (done_next s d);
        }

  -- A column filled.
  right_to : (q : ℕ) → q < columns (float_sizes g) → (k i : ℕ) (w : Words) → k + i ≡ suc (g.stream 0).size → Roomy g w
      → Sofar g from w i q 0 → Sofar g from (fill_column g from q k i w) (suc (g.stream 0).size) q 0
  unfolding fill_column
  right_to q wide zero i w e room sofar = let r : i ≡ suc (g.stream 0).size = omega arith in rw r at sofar
  right_to q wide (suc k) i w e room sofar =
      right_to q wide k (suc i) (fill_place g from i q w) (omega arith) (room_kept (length_place g from i q w) room)
      (right_place i q (omega arith) wide w room sofar)

  -- Before the next column stands all of this one and what is before it.
  done_column : (q : ℕ) (s : State) → Done g from 0 (suc q) 0 s → Done g from (suc (g.stream 0).size) q 0 s
  unfolding Done
  done_column q (stop v c) (h, inl l) =
      (h, inl (earlier_column (count v 0) (column_in g v) (g.stream 0).size q (place_of g v (inside_of g from v c h)).line l))
  done_column q (stop v c) (h, inr (x, y, z)) = absurd (omega arith)
  done_column q end d = d

  -- All columns filled.
  right_across : (k q : ℕ) (w : Words) → k + q ≡ columns (float_sizes g) → Roomy g w → Sofar g from w 0 q 0
      → Sofar g from (fill_columns g from k q w) 0 (columns (float_sizes g)) 0
  unfolding fill_columns
  right_across zero q w e room sofar = let r : q ≡ columns (float_sizes g) = omega arith in rw r at sofar
  right_across (suc k) q w e room sofar =
      let column = fill_column g from q (suc (g.stream 0).size) 0 w in
      let after = right_to q (omega arith) (suc (g.stream 0).size) 0 w (omega arith) room sofar in
      right_across k (suc q) column (omega arith) (room_kept (length_column g from q (suc (g.stream 0).size) 0 w) room)
      (record { entered = filled_next g light from (held g column) q after.entered; right = λ s d. after.right s (done_column q s d) })

  -- Nothing is filled before the first place.
  nothing_done : (w : Words) → Sofar g from w 0 0 0
  unfolding Done
  nothing_done w = record { entered = filled_start g light from (held g w); right = none }
    where
      none : Right (graph_of g from) (most_from from) (table_at g (held g w)) (Done g from 0 0 0)
      none (stop v c) (h, inl (inl l)) = absurd (omega arith)
      none (stop v c) (h, inl (inr (e, l))) = absurd (omega arith)
      none (stop v c) (h, inr (x, y, z)) = absurd (omega arith)
      none end d = absurd d

  -- A right entry is within what the search looks for.
  cell_within : (t : State → graph.Entry ℕ State) (v : State) (e : graph.Entry ℕ State) (x : ℕ) (u : State)
      → Cell (graph_of g from) (most_from from) t v e → e ≡ graph.least x u → x ≤ most_from from
  cell_within t v e x u (base o s p) q = let is : from.cost ≡ x = cc in omega arith
  cell_within t v e x u (inner n s) q = (s.offered x u q).1

  -- After filling the places of the table are right,
  places_right : (w : Words) → Roomy g w → (v : Place) (c : ℕ) → Within g (origin_of g from) (stop v c)
      → Cell (graph_of g from) (most_from from) (table_at g (held g (filled g from w))) (stop v c) (table_at g (held g (filled g from w)) (stop v c))
  unfolding filled Done
  places_right w room v c h =
      (right_across (columns (float_sizes g)) 0 (cleared (table_words g) w) (omega arith)
      (room_kept (cleared_length (table_words g) w room.words) room) (nothing_done (cleared (table_words g) w))).right (stop v c)
      (h, inl (inl (place_of g v (inside_of g from v c h)).column))

  -- and with the end the whole of it, whatever the work area held before.
  pub table_right : (w : Words) → Roomy g w → AllRight g from (held g (filled g from w))
  unfolding shown
  table_right w room (stop v c) h = places_right w room v c h
  table_right w room end h =
      end_right g from origin (held g (filled g from w))
      (λ c x s occurs e.
      cell_within (table_at g (held g (filled g from w))) _ _ x _ (places_right w room (at g (last_place g)) c (full_within g from origin c occurs))
      (shown_at g (held g (filled g from w)) (last_place g).line (last_place g).column c (last_wide g) ∙ ap (shown g c) e))
