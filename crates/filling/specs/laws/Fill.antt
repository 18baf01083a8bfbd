-- Filling column by column: what is stored where, and that what is known of every entry filled before stays known.
use Prim.Native.Nat.{ℕ, zero, suc, ◌+◌, ◌≤◌, ◌<◌}
use Rattle.std.proofs.Math.Decide.{dec_lt}
use native.Mathlib.Omega.{arith}
use Rattle.std.specs.Prelude.{◌≡◌, length}
use Rattle.std.proofs.Math.Path.{refl}
use Rattle.std.proofs.Common.{◌∙◌, inl, inr}
use Rattle.model.specs.Galley.{Galley}
use Rattle.places.specs.declared.Origin.{Origin}
use Rattle.places.specs.Order.{Earlier}
use Rattle.places.specs.Columns.{columns, float_sizes}
use Rattle.places.specs.Entry.{cleared}
use Rattle.places.proofs.laws.Cleared.{cleared_length}
use Rattle.candidates.specs.Search.{Table}
use Rattle.entries.specs.Fill.{Words, held, fill_sides, side_count, fill_place, table_words}
use Rattle.filling.specs.Fill.{fill_column, fill_columns, filled}
use Rattle.entries.specs.Filled.{Light, Roomy, Filled}
use Rattle.entries.specs.laws.Entered.{count_low}
use Rattle.entries.specs.laws.Fill.{length_sides, length_place, room_kept, side_other, filled_place}

-- Filling keeps the length.
pub length_column : (g : Galley) (from : Origin) (q k i : ℕ) (w : Words) → length (fill_column g from q k i w) ≡ length w
unfolding fill_column
length_column g from q zero i w = refl
length_column g from q (suc k) i w = length_column g from q k (suc i) (fill_place g from i q w) ∙ length_place g from i q w

pub length_columns : (g : Galley) (from : Origin) (k q : ℕ) (w : Words) → length (fill_columns g from k q w) ≡ length w
unfolding fill_columns
length_columns g from zero q w = refl
length_columns g from (suc k) q w =
    length_columns g from k (suc q) (fill_column g from q (suc (g.stream 0).size) 0 w)
    ∙ length_column g from q (suc (g.stream 0).size) 0 w

pub length_filled : (g : Galley) (from : Origin) (w : Words) → Roomy g w → length (filled g from w) ≡ length w
unfolding filled
length_filled g from w room =
    length_columns g from (columns (float_sizes g)) 0 (cleared (table_words g) w) ∙ cleared_length (table_words g) w room.words

-- Filling a place leaves the other columns as they were,
module _ (g : Galley) (from : Origin) (q : ℕ) (wide : q < columns (float_sizes g)) (a b d : ℕ) (line : a ≤ (g.stream 0).size) (side : d ≤ 1)
    (differ : q ≡ b → ⊥) where
  sides_other : (i : ℕ) → i ≤ (g.stream 0).size → (n : ℕ) → n ≤ 2 → (w : Words) → Roomy g w
      → held g (fill_sides g from i q n w) a b d ≡ held g w a b d
  unfolding fill_sides
  sides_other i high zero few w room = refl
  sides_other i high (suc n) few w room =
      side_other g from i q n (fill_sides g from i q n w) (room_kept (length_sides g from i q n w) room) high wide (omega arith) a b d line side
      (λ e. differ e.1)
      ∙ sides_other i high n (omega arith) w room

  -- and so does filling a column.
  pub column_other : (k i : ℕ) (w : Words) → k + i ≡ suc (g.stream 0).size → Roomy g w
      → held g (fill_column g from q k i w) a b d ≡ held g w a b d
  unfolding fill_column fill_place
  column_other zero i w e room = refl
  column_other (suc k) i w e room =
      column_other k (suc i) (fill_sides g from i q (side_count g.spec.sides) w) (omega arith)
      (room_kept (length_sides g from i q (side_count g.spec.sides) w) room)
      ∙ sides_other i (omega arith) (side_count g.spec.sides) (count_low g.spec.sides) w room

-- Filling a column from a line on leaves the lines above as they were.
module _ (g : Galley) (from : Origin) (q : ℕ) (wide : q < columns (float_sizes g)) (a d : ℕ) (side : d ≤ 1) where
  sides_above : (i : ℕ) → a < i → i ≤ (g.stream 0).size → (n : ℕ) → n ≤ 2 → (w : Words) → Roomy g w
      → held g (fill_sides g from i q n w) a q d ≡ held g w a q d
  unfolding fill_sides
  sides_above i above high zero few w room = refl
  sides_above i above high (suc n) few w room =
      side_other g from i q n (fill_sides g from i q n w) (room_kept (length_sides g from i q n w) room) high wide (omega arith) a q d (omega arith)
      side (λ e. omega (arith, e.0))
      ∙ sides_above i above high n (omega arith) w room

  pub column_above : (k i : ℕ) (w : Words) → a < i → k + i ≡ suc (g.stream 0).size → Roomy g w
      → held g (fill_column g from q k i w) a q d ≡ held g w a q d
  unfolding fill_column fill_place
  column_above zero i w above e room = refl
  column_above (suc k) i w above e room =
      column_above k (suc i) (fill_sides g from i q (side_count g.spec.sides) w) (omega arith) (omega arith)
      (room_kept (length_sides g from i q (side_count g.spec.sides) w) room)
      ∙ sides_above i above (omega arith) (side_count g.spec.sides) (count_low g.spec.sides) w room

-- Before the first place of the next column stand all of this column and those before it.
pub earlier_column : (a b m q : ℕ) → a ≤ m → Earlier a b 0 (suc q) → Earlier a b (suc m) q
earlier_column a b m q h (inl l) = go (dec_lt b q)
  where
    go : Dec (b < q) → Earlier a b (suc m) q
    go (yes k) = inl k
    go (no k) = inr (omega arith, omega arith)
earlier_column a b m q h (inr (e, l)) = absurd (omega arith)

module _ (g : Galley) (light : Light g) (from : Origin) where
  pub filled_start : (t : Table) → Filled g from t 0 0
  filled_start t = record { entered = λ a b c x s l. absurd (none a b l) }
    where
      none : (a b : ℕ) → Earlier a b 0 0 → ⊥
      none a b (inl l) = omega arith
      none a b (inr (e, l)) = omega arith

  pub filled_next : (t : Table) (q : ℕ) → Filled g from t (suc (g.stream 0).size) q → Filled g from t 0 (suc q)
  filled_next t q f =
      record { entered = λ a b c x s l h. f.entered a b c x s (earlier_column a b (g.stream 0).size q h l) h }

  -- A column filled.
  pub filled_to : (q : ℕ) → q < columns (float_sizes g) → (k i : ℕ) (w : Words) → k + i ≡ suc (g.stream 0).size → Roomy g w
      → Filled g from (held g w) i q → Filled g from (held g (fill_column g from q k i w)) (suc (g.stream 0).size) q
  unfolding fill_column
  filled_to q wide zero i w e room f = let r : i ≡ suc (g.stream 0).size = omega arith in rw r at f
  filled_to q wide (suc k) i w e room f =
      filled_to q wide k (suc i) (fill_place g from i q w) (omega arith) (room_kept (length_place g from i q w) room)
      (filled_place g light from i q (omega arith) wide w room f)

  -- All columns filled.
  pub filled_across : (k q : ℕ) (w : Words) → k + q ≡ columns (float_sizes g) → Roomy g w → Filled g from (held g w) 0 q
      → Filled g from (held g (fill_columns g from k q w)) 0 (columns (float_sizes g))
  unfolding fill_columns
  filled_across zero q w e room f = let r : q ≡ columns (float_sizes g) = omega arith in rw r at f
  filled_across (suc k) q w e room f =
      filled_across k (suc q) (fill_column g from q (suc (g.stream 0).size) 0 w) (omega arith)
      (room_kept (length_column g from q (suc (g.stream 0).size) 0 w) room)
      (filled_next (held g (fill_column g from q (suc (g.stream 0).size) 0 w)) q
      (filled_to q (omega arith) (suc (g.stream 0).size) 0 w (omega arith) room f))

  -- After filling, every entry's start lies before it and its cost is small.
  pub filled_all : (w : Words) → Roomy g w → Filled g from (held g (filled g from w)) 0 (columns (float_sizes g))
  unfolding filled
  filled_all w room =
      filled_across (columns (float_sizes g)) 0 (cleared (table_words g) w) (omega arith)
      (room_kept (cleared_length (table_words g) w room.words) room) (filled_start (held g (cleared (table_words g) w)))
