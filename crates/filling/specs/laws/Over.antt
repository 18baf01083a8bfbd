-- A column is filled the same whatever stood in it: no entry hangs on words of its own column that are not filled yet, and every
-- place of the column is stored over.
use Prim.Native.Nat.{ℕ, zero, suc, ◌+◌, ◌≤◌, ◌<◌}
use Rattle.std.proofs.Math.Decide.{ℕ_discrete}
use native.Mathlib.Omega.{arith}
use Rattle.std.specs.Prelude.{◌≡◌}
use Rattle.std.proofs.Math.Path.{refl, ap}
use Rattle.std.proofs.Common.{◌∙◌, inl, inr}
use Rattle.model.specs.Galley.{Galley}
use Rattle.places.specs.declared.Origin.{Origin}
use Rattle.places.specs.Entry.{Entry, stored}
use Rattle.places.specs.Address.{address}
use Rattle.places.specs.Order.{Earlier}
use Rattle.places.specs.Columns.{columns, float_sizes}
use Rattle.places.proofs.laws.Address.{address_apart}
use Rattle.places.proofs.laws.Best.{best_as, best_unique}
use Rattle.places.proofs.laws.Stored.{stored_twice, stored_swap}
use Rattle.places.proofs.laws.Table.{table_other}
use Rattle.candidates.specs.Search.{Table, before, Search, best_start, new_entry}
use Rattle.candidates.specs.Beside.{Sought}
use Rattle.candidates.proofs.laws.Found.{best_start_lem}
use Rattle.candidates.proofs.laws.Pages.{candidate_earlier}
use Rattle.passes.proofs.laws.Sweep.{search_in, best_same}
use Rattle.entries.specs.Fill.{Words, tall, held, fill_side, fill_sides, side_count, fill_place}
use Rattle.filling.specs.Fill.{fill_column}
use Rattle.entries.specs.Filled.{Roomy}
use Rattle.entries.specs.laws.Entered.{count_low, before_low}
use Rattle.entries.specs.laws.Fill.{length_sides, length_place, room_kept, in_room}

-- The best start looks only at the entries of earlier places,
start_same : (s : Search) (t : Table) → Sought s
    → ((a b : ℕ) → Earlier a b s.line s.column → a ≤ s.line → t a b s.side ≡ s.table a b s.side)
    → best_start (search_in s t) ≡ best_start s
start_same s t sought same =
    let to = search_in s t in
    let sought' : Sought to = record { high = sought.high; wide = sought.wide } in
    best_unique (best_start to) (best_start s) (best_start_lem to)
    (best_as (λ a b x c. (tt, c.1)) (λ a b x c. (candidate_earlier to sought' a b x c.1, c.1))
    (best_same s t (λ a b. Earlier a b s.line s.column) (best_start s) (λ a b e h k. same a b e h)
    (best_as (λ a b x c. (candidate_earlier s sought a b x c.1, c.1)) (λ a b x c. (tt, c.1)) (best_start_lem s))))

module _ (g : Galley) (from : Origin) (q : ℕ) (wide : q < columns (float_sizes g)) where
  module _ (w : Words) (i c : ℕ) (e : Entry) (room : Roomy g w) (line : i ≤ (g.stream 0).size) (side : c ≤ 1) where
    abbrev over : Words
    over = stored w (address (tall g) i q c) e

    -- so that a store in the column leaves the entry that every place from its line up gets.
    entry_same : (i' d : ℕ) → i' ≤ i → new_entry g from (held g over) i' q d ≡ new_entry g from (held g w) i' q d
    unfolding new_entry tall
    entry_same i' d l =
        let s = start_same (record { galley = g; table = held g w; line = i'; column = q; side = before g.spec.sides d }) (held g over)
        (record { high = omega arith; wide = wide }) (λ a b p h. other a b p h) in
        rw s
      where
        other : (a b : ℕ) → Earlier a b i' q → a ≤ i' → held g over a b (before g.spec.sides d) ≡ held g w a b (before g.spec.sides d)
        other a b p h =
            table_other ((g.stream 0).size + 1) i q c a b (before g.spec.sides d) w e (omega arith) (omega arith) side
            (before_low g.spec.sides d) (λ r. differ p r.0 r.1)
          where
            differ : Earlier a b i' q → i ≡ a → q ≡ b → ⊥
            differ (inl x) y z = omega arith
            differ (inr (x, k)) y z = omega arith

    -- The same place and side filled: the store is forgotten.
    side_over : fill_side g from i q c over ≡ fill_side g from i q c w
    unfolding fill_side
    side_over =
        let at = address (tall g) i q c in
        ap (stored over at) (entry_same i c (omega arith))
        ∙ stored_twice w at e (new_entry g from (held g w) i q c) (in_room room i q c line wide side)

    -- Another filled before: the store comes after it.
    side_later : (i' d : ℕ) → i' ≤ i → d ≤ 1 → ((i ≡ i') × (c ≡ d) → ⊥)
        → fill_side g from i' q d over ≡ stored (fill_side g from i' q d w) (address (tall g) i q c) e
    unfolding fill_side tall
    side_later i' d l m n =
        let to = address ((g.stream 0).size + 1) i' q d in
        ap (stored over to) (entry_same i' d l)
        ∙ stored_swap w (address ((g.stream 0).size + 1) i q c) to e (new_entry g from (held g w) i' q d)
        (address_apart ((g.stream 0).size + 1) i q c i' q d (omega arith) (omega arith) side m (λ r. n (r.0, r.2)))
        (in_room room i q c line wide side) (in_room room i' q d (omega arith) wide m)

  module _ (i c : ℕ) (e : Entry) (line : i ≤ (g.stream 0).size) (low : c ≤ 1) where
    abbrev put : Words → Words
    put w = stored w (address (tall g) i q c) e

    -- Sides filled before it, at an earlier line or at its own: the store comes after them.
    sides_later : (i' d : ℕ) (w : Words) → Roomy g w → i' ≤ i → d ≤ 2 → (i ≡ i' → d ≤ c)
        → fill_sides g from i' q d (put w) ≡ put (fill_sides g from i' q d w)
    unfolding fill_sides
    sides_later i' zero w room l m n = refl
    sides_later i' (suc d) w room l m n =
        ap (fill_side g from i' q d) (sides_later i' d w room l (omega arith) (λ p. let k = n p in omega arith))
        ∙ side_later (fill_sides g from i' q d w) i c e (room_kept (length_sides g from i' q d w) room) line low i' d l (omega arith)
        (λ r. let k = n r.0 in omega (arith, r.1))

    -- Sides filled at its own place, its own among them: the store is forgotten.
    sides_over : (d : ℕ) (w : Words) → Roomy g w → d ≤ 2 → c < d → fill_sides g from i q d (put w) ≡ fill_sides g from i q d w
    unfolding fill_sides
    sides_over zero w room m n = absurd (omega arith)
    sides_over (suc d) w room m n = go (ℕ_discrete c d) (λ k. sides_over d w room (omega arith) k)
      where
        go : Dec (c ≡ d) → (c < d → fill_sides g from i q d (put w) ≡ fill_sides g from i q d w)
            → fill_side g from i q d (fill_sides g from i q d (put w)) ≡ fill_side g from i q d (fill_sides g from i q d w)
        go (yes p) below =
            rw (← p)
            (ap (fill_side g from i q c) (sides_later i c w room (omega arith) (omega arith) (λ _. omega arith))
            ∙ side_over (fill_sides g from i q c w) i c e (room_kept (length_sides g from i q c w) room) line low)
        go (no p) below = ap (fill_side g from i q d) (below (omega arith))

    module _ (occurs : c < side_count g.spec.sides) where
      -- A store in the column before it is filled changes nothing.
      pub column_over : (k i₀ : ℕ) (w : Words) → Roomy g w → k + i₀ ≡ suc (g.stream 0).size → i₀ ≤ i
          → fill_column g from q k i₀ (put w) ≡ fill_column g from q k i₀ w
      unfolding fill_column fill_place
      column_over zero i₀ w room n l = absurd (omega arith)
      column_over (suc k) i₀ w room n l =
          go (ℕ_discrete i₀ i)
          (λ p. column_over k (suc i₀) (fill_place g from i₀ q w) (room_kept (length_place g from i₀ q w) room) (omega arith) p)
        where
          sides : ℕ
          sides = side_count g.spec.sides

          go : Dec (i₀ ≡ i)
              → (i₀ < i → fill_column g from q k (suc i₀) (put (fill_place g from i₀ q w)) ≡ fill_column g from q k (suc i₀) (fill_place g from i₀ q w))
              → fill_column g from q k (suc i₀) (fill_place g from i₀ q (put w)) ≡ fill_column g from q k (suc i₀) (fill_place g from i₀ q w)
          go (yes p) below =
              ap (fill_column g from q k (suc i₀)) (rw p (sides_over sides w room (count_low g.spec.sides) occurs))
          go (no p) below =
              ap (fill_column g from q k (suc i₀))
              (sides_later i₀ sides w room (omega arith) (count_low g.spec.sides) (λ r. absurd (omega arith)))
              ∙ below (omega arith)
