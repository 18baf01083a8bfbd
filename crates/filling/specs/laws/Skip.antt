-- The columns before that of the origin: nothing in them is past it, so that filling leaves them empty where they are.
use Prim.Native.Nat.{ℕ, zero, suc, ◌+◌, ◌≤◌, ◌<◌}
use native.Mathlib.Omega.{arith}
use Rattle.std.specs.Prelude.{◌≡◌, None, Some}
use Rattle.std.proofs.Math.Path.{refl, ap}
use Rattle.std.proofs.Common.{sym, ◌∙◌, inl, inr}
use Rattle.model.specs.Galley.{Galley}
use Rattle.places.specs.declared.Origin.{Origin}
use Rattle.places.specs.Address.{address}
use Rattle.places.specs.Entry.{Entry, stored}
use Rattle.places.specs.Order.{Earlier}
use Rattle.places.specs.Columns.{columns, float_sizes, place_at}
use Rattle.places.proofs.laws.Best.{no_reach}
use Rattle.places.proofs.laws.Places.{column_at, inside_columns}
use Rattle.places.proofs.laws.Table.{table_same}
use Rattle.candidates.specs.Search.{new_entry}
use Rattle.entries.specs.Fill.{Words, tall, held, fill_side, fill_sides, side_count, fill_place}
use Rattle.filling.specs.Fill.{fill_column, fill_columns}
use Rattle.entries.specs.Filled.{Roomy, Side, Light, Filled}
use Rattle.entries.specs.laws.Entered.{side_low, side_below, below_side, entry_entered}
use Rattle.entries.specs.laws.Fill.{in_room}

module _ (g : Galley) (light : Light g) (from : Origin) (origin : from.place.column < columns (float_sizes g)) (w : Words) (room : Roomy g w)
    (empty : (a b c : ℕ) → a ≤ (g.stream 0).size → b < columns (float_sizes g) → c < side_count g.spec.sides
    → stored w (address (tall g) a b c) None ≡ w) where
  -- In an empty table nothing is reached,
  none : (a b c : ℕ) → a ≤ (g.stream 0).size → b < columns (float_sizes g) → Side g.spec.sides c → held g w a b c ≡ None
  none a b c h wide occurs =
      ap (λ v. held g v a b c) (sym (empty a b c h wide (side_below g.spec.sides c occurs)))
      ∙ table_same (tall g) a b c w None (in_room room a b c h wide (side_low g.spec.sides c occurs))

  earlier_wide : (a b i q : ℕ) → q < columns (float_sizes g) → Earlier a b i q → b < columns (float_sizes g)
  earlier_wide a b i q wide (inl l) = omega arith
  earlier_wide a b i q wide (inr (e, l)) = omega arith

  -- so that whatever is said of what is reached holds;
  pub filled_none : (i q : ℕ) → q < columns (float_sizes g) → Filled g from (held g w) i q
  filled_none i q wide =
      record { entered = λ a b c x s l h k e. absurd (no_reach (sym (none a b c h (earlier_wide a b i q wide l) k) ∙ e)) }

  module _ (q : ℕ) (early : q < from.place.column) where
    wide : q < columns (float_sizes g)
    wide = omega (arith, origin)

    -- no page reaches a place before the origin's column,
    unreached : (i c : ℕ) → i ≤ (g.stream 0).size → Side g.spec.sides c → new_entry g from (held g w) i q c ≡ None
    unreached i c high occurs = go (new_entry g from (held g w) i q c) refl
      where
        go : (e : Entry) → new_entry g from (held g w) i q c ≡ e → new_entry g from (held g w) i q c ≡ None
        go None e = e
        go (Some l) e =
            let entered = entry_entered g light from (held g w) i q c high wide (filled_none i q wide) occurs l.cost l.start e in
            let low = inside_columns g (place_at g from.place.line from.place.column) (place_at g i q) entered.past in
            absurd (omega (arith, column_at g from.place.line from.place.column origin, column_at g i q wide))

    -- and the column stays as it is, side by side,
    sides_left : (i : ℕ) → i ≤ (g.stream 0).size → (n : ℕ) → n ≤ side_count g.spec.sides → fill_sides g from i q n w ≡ w
    unfolding fill_sides fill_side
    sides_left i high zero l = refl
    sides_left i high (suc n) l =
        ap (fill_side g from i q n) (sides_left i high n (omega arith))
        ∙ ap (stored w (address (tall g) i q n)) (unreached i n high (below_side g.spec.sides n l))
        ∙ empty i q n high wide l

    -- and line by line.
    column_left : (k i : ℕ) → k + i ≡ suc (g.stream 0).size → fill_column g from q k i w ≡ w
    unfolding fill_column fill_place
    column_left zero i e = refl
    column_left (suc k) i e =
        ap (fill_column g from q k (suc i)) (sides_left i (omega arith) (side_count g.spec.sides) (omega arith)) ∙ column_left k (suc i) (omega arith)

  -- So filling may begin with the origin's column.
  pub columns_left : (k q n : ℕ) → k + q ≡ from.place.column → fill_columns g from (k + n) q w ≡ fill_columns g from n from.place.column w
  unfolding fill_columns
  columns_left zero q n e =
      let here : q ≡ from.place.column = omega arith in
      let rest : 0 + n ≡ n = omega arith in
      rw (here, rest) refl
  columns_left (suc k) q n e =
      let rest : suc k + n ≡ suc (k + n) = omega arith in
      rw rest (ap (fill_columns g from (k + n) (suc q)) (column_left q (omega arith) (suc (g.stream 0).size) 0 (omega arith)) ∙ columns_left k (suc q) n (omega arith))
