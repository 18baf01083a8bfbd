-- Filling a place side by side: what is stored where, and that what is known of every entry filled before stays known.
use Prim.Native.Nat.{ℕ, zero, suc, ◌+◌, ◌≤◌, ◌<◌}
use Rattle.std.proofs.Math.Decide.{dec_lt}
use Rattle.std.proofs.Common.{arith, sym, ◌∙◌, inl, inr}
use Rattle.std.specs.Prelude.{◌≡◌, refl, ◌⊎◌, length}
use Rattle.model.specs.Galley.{Galley}
use Rattle.places.specs.declared.Place.{Place}
use Rattle.places.specs.declared.Origin.{Origin}
use Rattle.places.specs.Entry.{least}
use Rattle.places.specs.Address.{address}
use Rattle.places.specs.Order.{Earlier}
use Rattle.places.specs.Columns.{columns, float_sizes}
use Rattle.places.proofs.laws.Address.{address_in}
use Rattle.places.proofs.laws.Stored.{stored_length}
use Rattle.places.proofs.laws.Table.{table_same, table_other}
use Rattle.candidates.specs.Search.{new_entry}
use Rattle.entries.specs.Fill.{Words, tall, held, fill_side, fill_sides, side_count, fill_place}
use Rattle.entries.specs.Filled.{Light, Roomy, Side, Entered, Filled}
use Rattle.entries.specs.laws.Entered.{side_low, side_below, below_side, count_low, entry_entered}

-- Filling keeps the length, and so the room.
pub length_side : (g : Galley) (from : Origin) (i q c : ℕ) (w : Words) → length (fill_side g from i q c w) ≡ length w
unfolding fill_side
length_side g from i q c w = stored_length w (address (tall g) i q c) (new_entry g from (held g w) i q c)

pub length_sides : (g : Galley) (from : Origin) (i q c : ℕ) (w : Words) → length (fill_sides g from i q c w) ≡ length w
unfolding fill_sides
length_sides g from i q zero w = refl
length_sides g from i q (suc c) w = length_side g from i q c (fill_sides g from i q c w) ∙ length_sides g from i q c w

pub length_place : (g : Galley) (from : Origin) (i q : ℕ) (w : Words) → length (fill_place g from i q w) ≡ length w
unfolding fill_place
length_place g from i q w = length_sides g from i q (side_count g.spec.sides) w

pub room_kept : {g : Galley} {v w : Words} → length v ≡ length w → Roomy g w → Roomy g v
room_kept e room = record { words = omega (arith, room.words) }

-- The five words of a place are there.
pub in_room : {g : Galley} {w : Words} → Roomy g w → (i q c : ℕ) → i ≤ (g.stream 0).size → q < columns (float_sizes g) → c ≤ 1
    → address (tall g) i q c + 5 ≤ length w
unfolding tall
in_room {g} room i q c high wide side =
    omega (arith, room.words, address_in ((g.stream 0).size + 1) i q c (columns (float_sizes g)) (omega arith) wide side)

module _ (g : Galley) (from : Origin) (i q c : ℕ) (w : Words) (room : Roomy g w) (high : i ≤ (g.stream 0).size)
    (wide : q < columns (float_sizes g)) (side : c ≤ 1) where
  -- The entry stands where it was put.
  pub side_same : held g (fill_side g from i q c w) i q c ≡ new_entry g from (held g w) i q c
  unfolding fill_side
  side_same = table_same (tall g) i q c w (new_entry g from (held g w) i q c) (in_room room i q c high wide side)

  -- Every other entry is as it was.
  pub side_other : (a b d : ℕ) → a ≤ (g.stream 0).size → d ≤ 1 → ((i ≡ a) × (q ≡ b) × (c ≡ d) → ⊥)
      → held g (fill_side g from i q c w) a b d ≡ held g w a b d
  unfolding fill_side tall
  side_other a b d h k differ =
      table_other ((g.stream 0).size + 1) i q c a b d w (new_entry g from (held g w) i q c) (omega arith) (omega arith) side k differ

-- An earlier place is another place.
earlier_other : (a b i q : ℕ) → Earlier a b i q → (i ≡ a) × (q ≡ b) → ⊥
earlier_other a b i q (inl l) (p, r) = omega arith
earlier_other a b i q (inr (e, l)) (p, r) = omega arith

-- Before the place below (i, q) in its column stand those before (i, q), and (i, q).
pub earlier_next : (a b i q : ℕ) → Earlier a b (suc i) q → Earlier a b i q ⊎ ((a ≡ i) × (b ≡ q))
earlier_next a b i q (inl l) = inl (inl l)
earlier_next a b i q (inr (e, l)) = go (dec_lt a i)
  where
    go : Dec (a < i) → Earlier a b i q ⊎ ((a ≡ i) × (b ≡ q))
    go (yes m) = inl (inr (e, m))
    go (no m) = inr (omega arith, e)

module _ (g : Galley) (light : Light g) (from : Origin) where
  module _ (i q : ℕ) (high : i ≤ (g.stream 0).size) (wide : q < columns (float_sizes g)) where
    -- One side filled: the earlier entries are as they were.
    pub filled_keeps : (c : ℕ) (w : Words) → Roomy g w → c ≤ 1 → Filled g from (held g w) i q
        → Filled g from (held g (fill_side g from i q c w)) i q
    filled_keeps c w room low f =
        record {
          entered = λ a b d x s l h k e.
              f.entered a b d x s l h k
              (sym (side_other g from i q c w room high wide low a b d h (side_low g.spec.sides d k)
              (λ r. earlier_other a b i q l (r.0, r.1))) ∙ e);
        }

    -- So many sides filled: the earlier entries are as they were, and those of these sides are such too.
    record Sides (w : Words) (n : ℕ) : Type 0 where
      earlier : Filled g from (held g (fill_sides g from i q n w)) i q
      own : (c x : ℕ) (s : Place) → c < n → held g (fill_sides g from i q n w) i q c ≡ least x s → Entered g from i q x s

    sides_next : (w : Words) (n : ℕ) → Roomy g (fill_sides g from i q n w) → n < side_count g.spec.sides → Sides w n → Sides w (suc n)
    unfolding fill_sides
    sides_next w n room m sofar =
        record { earlier = filled_keeps n before room low sofar.earlier; own = λ c x s l e. go c x s (dec_lt c n) l e }
      where
        before : Words
        before = fill_sides g from i q n w

        low : n ≤ 1
        low = omega (arith, count_low g.spec.sides)

        go : (c x : ℕ) (s : Place) → Dec (c < n) → c < suc n → held g (fill_side g from i q n before) i q c ≡ least x s
            → Entered g from i q x s
        go c x s (yes k) l e =
            sofar.own c x s k
            (sym (side_other g from i q n before room high wide low i q c high (omega (arith, low)) (λ r. omega (arith, r.2))) ∙ e)
        go c x s (no k) l e =
            let z : c ≡ n = omega arith in
            entry_entered g light from (held g before) i q n high wide sofar.earlier (below_side g.spec.sides n m) x s
            (sym (side_same g from i q n before room high wide low) ∙ (rw z at e))

    sides_filled : (w : Words) → Roomy g w → Filled g from (held g w) i q → (n : ℕ) → n ≤ side_count g.spec.sides → Sides w n
    unfolding fill_sides
    sides_filled w room f zero m = record { earlier = f; own = λ c x s l. absurd (omega arith) }
    sides_filled w room f (suc n) m =
        sides_next w n (room_kept (length_sides g from i q n w) room) m (sides_filled w room f n (omega arith))

    -- A place filled on the sides that occur.
    pub filled_place : (w : Words) → Roomy g w → Filled g from (held g w) i q → Filled g from (held g (fill_place g from i q w)) (suc i) q
    unfolding fill_place
    filled_place w room f =
        let sofar = sides_filled w room f (side_count g.spec.sides) (omega arith) in
        record { entered = λ a b c x s l h k e. go sofar a b c x s (earlier_next a b i q l) h k e }
      where
        go : Sides w (side_count g.spec.sides) → (a b c x : ℕ) (s : Place) → Earlier a b i q ⊎ ((a ≡ i) × (b ≡ q))
            → a ≤ (g.stream 0).size → Side g.spec.sides c
            → held g (fill_sides g from i q (side_count g.spec.sides) w) a b c ≡ least x s → Entered g from a b x s
        go sofar a b c x s (inl l) h k e = sofar.earlier.entered a b c x s l h k e
        go sofar a b c x s (inr (p, r)) h k e =
            rw (p, r) (sofar.own c x s (side_below g.spec.sides c k) (rw (p, r) at e))
