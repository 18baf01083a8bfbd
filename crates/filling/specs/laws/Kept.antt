-- What every store keeps, filling keeps: the words beyond the table, and those of the columns before the origin's, which stay zeros.
use Prim.Native.Nat.{ℕ, zero, suc, ◌+◌, ◌-◌, ◌≤◌, ◌<◌}
use native.Mathlib.Omega.{arith}
use Rattle.std.specs.Prelude.{◌≡◌, None}
use Rattle.std.proofs.Common.{◌∙◌}
use Rattle.std.proofs.Math.Path.{ap}
use Rattle.std.proofs.Math.ListN.{take, drop, replicate}
use Rattle.model.specs.Galley.{Galley}
use Rattle.places.specs.declared.Origin.{Origin}
use Rattle.places.specs.Address.{address, area}
use Rattle.places.specs.Entry.{Entry, stored, cleared}
use Rattle.places.specs.Columns.{columns, float_sizes}
use Rattle.places.proofs.laws.Address.{area_grows, address_in, address_past}
use Rattle.places.proofs.laws.Cleared.{cleared_length, cleared_beyond, cleared_first, cleared_empty}
use Rattle.places.proofs.laws.Stored.{stored_beyond, stored_past}
use Rattle.candidates.specs.Search.{new_entry}
use Rattle.entries.specs.Fill.{Words, tall, held, fill_side, fill_sides, side_count, fill_place, table_words}
use Rattle.filling.specs.Fill.{fill_column, fill_columns, filled}
use Rattle.entries.specs.Filled.{Roomy, Light}
use Rattle.entries.specs.laws.Entered.{count_low}
use Rattle.entries.specs.laws.Fill.{room_kept}
use Rattle.filling.specs.laws.Skip.{columns_left}

module _ (g : Galley) (from : Origin) (first : ℕ) (P : Words → Type 0)
    (keeps : (w : Words) (i q c : ℕ) (e : Entry) → i ≤ (g.stream 0).size → first ≤ q → q < columns (float_sizes g) → c ≤ 1 → P w
    → P (stored w (address (tall g) i q c) e)) where
  module _ (q : ℕ) (since : first ≤ q) (wide : q < columns (float_sizes g)) where
    sides_keep : (i : ℕ) → i ≤ (g.stream 0).size → (n : ℕ) (w : Words) → n ≤ 2 → P w → P (fill_sides g from i q n w)
    unfolding fill_sides fill_side
    sides_keep i h zero w l p = p
    sides_keep i h (suc n) w l p =
        keeps (fill_sides g from i q n w) i q n (new_entry g from (held g (fill_sides g from i q n w)) i q n) h since wide (omega arith)
        (sides_keep i h n w (omega arith) p)

    column_keeps : (k i : ℕ) (w : Words) → k + i ≡ suc (g.stream 0).size → P w → P (fill_column g from q k i w)
    unfolding fill_column fill_place
    column_keeps zero i w e p = p
    column_keeps (suc k) i w e p =
        column_keeps k (suc i) (fill_place g from i q w) (omega arith)
        (sides_keep i (omega arith) (side_count g.spec.sides) w (count_low g.spec.sides) p)

  columns_keep : (k q : ℕ) (w : Words) → first ≤ q → k + q ≡ columns (float_sizes g) → P w → P (fill_columns g from k q w)
  unfolding fill_columns
  columns_keep zero q w since e p = p
  columns_keep (suc k) q w since e p =
      columns_keep k (suc q) (fill_column g from q (suc (g.stream 0).size) 0 w) (omega arith) (omega arith)
      (column_keeps q since (omega arith) (suc (g.stream 0).size) 0 w (omega arith) p)

module _ (g : Galley) (from : Origin) (w : Words) where
  -- No word beyond the table changes.
  pub filled_beyond : drop (table_words g) (filled g from w) ≡ drop (table_words g) w
  unfolding filled tall
  filled_beyond =
      columns_keep g from 0 (λ v. drop (table_words g) v ≡ drop (table_words g) w)
      (λ v i q c e h since wide low p.
      stored_beyond v (address (tall g) i q c) (table_words g) e (address_in ((g.stream 0).size + 1) i q c (columns (float_sizes g)) (omega arith) wide low) ∙ p)
      (columns (float_sizes g)) 0 (cleared (table_words g) w) (omega arith) (omega arith) (cleared_beyond (table_words g) w)

  module _ (light : Light g) (origin : from.place.column < columns (float_sizes g)) (room : Roomy g w) where
    abbrev blank : Words
    blank = cleared (table_words g) w

    empty : (a b c : ℕ) → a ≤ (g.stream 0).size → b < columns (float_sizes g) → c < side_count g.spec.sides
        → stored blank (address (tall g) a b c) None ≡ blank
    unfolding tall
    empty a b c h wide occurs =
        cleared_empty (table_words g) (address (tall g) a b c) w
        (address_in ((g.stream 0).size + 1) a b c (columns (float_sizes g)) (omega arith) wide (omega (arith, count_low g.spec.sides))) room.words

    -- Those of the columns before the origin's are zeros.
    pub filled_early : take (area (tall g) from.place.column) (filled g from w) ≡ replicate (area (tall g) from.place.column) 0
    unfolding filled
    filled_early =
        let early = from.place.column in
        let rest = columns (float_sizes g) - early in
        let all : early + rest ≡ columns (float_sizes g) = omega arith in
        let left = columns_left g light from origin blank (room_kept (cleared_length (table_words g) w room.words) room) empty early 0 rest (omega arith) in
        ap (take (area (tall g) early)) (rw all at left)
        ∙ columns_keep g from early (λ v. take (area (tall g) early) v ≡ replicate (area (tall g) early) 0)
        (λ v i q c e h since wide low p.
        stored_past v (address (tall g) i q c) (area (tall g) early) e (address_past (tall g) i q c early since) ∙ p)
        rest early blank (omega arith) (omega arith)
        (cleared_first (table_words g) (area (tall g) early) w (area_grows (tall g) early (columns (float_sizes g)) (omega arith)))
