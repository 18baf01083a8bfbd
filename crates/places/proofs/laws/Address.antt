-- Addresses: in range, in the order of the columns, and apart. All products of two variables are dealt with here.
use Rattle.std.specs.Prelude.{◌≡◌, refl, ◌⊎◌, Bool, true, false, ℕ, ◌+◌, ◌*◌, ◌<◌, ◌≤◌, ltb}
use Rattle.std.proofs.Common.{inl, inr, suc-mul, mul_comm, mul-le-mul, mul-le-mul_right, arith, ltb-true, ltb-false}
use Rattle.places.specs.declared.Place.{Place}
use Rattle.places.specs.Address.{address, area, words_needed, Inside, Limited, Apart}
use Rattle.places.specs.Order.{Earlier}

-- Numbers are in one of three orders.
compared : (a b : ℕ) → (a < b) ⊎ ((a ≡ b) ⊎ (b < a))
compared a b = go (ltb a b) refl (ltb b a) refl
  where
    go : (x : Bool) → ltb a b ≡ x → (y : Bool) → ltb b a ≡ y → (a < b) ⊎ ((a ≡ b) ⊎ (b < a))
    go true p y q = inl (ltb-true a b p)
    go false p true q = inr (inr (ltb-true b a q))
    go false p false q = inr (inl (omega (arith, ltb-false a b p, ltb-false b a q)))

-- The sides of a place follow each other.
pub address_side : (tall i j side : ℕ) → address tall i j side ≡ address tall i j 0 + side * 5
unfolding address
address_side tall i j side = omega arith

-- A column ends before the next begins.
column_first : (tall j j' : ℕ) → j < j' → j * tall + tall ≤ j' * tall
column_first tall j j' h = omega (arith, mul-le-mul_right tall h, suc-mul j tall)

-- An earlier place has all its words before a later one.
pub address_earlier : (tall i j i' j' : ℕ) → i < tall → Earlier i j i' j' → address tall i j 0 + 10 ≤ address tall i' j' 0
unfolding address
address_earlier tall i j i' j' h (inl l) = omega (arith, column_first tall j j' l)
address_earlier tall i j i' j' h (inr (e, l)) = rw e (omega arith)

-- An earlier place is apart from a later one, on whatever sides.
pub address_before :
    (tall i j side i' j' side' : ℕ) → i < tall → side ≤ 1 → Earlier i j i' j'
    → address tall i j side + 5 ≤ address tall i' j' side'
address_before tall i j side i' j' side' h s l =
    omega (arith, address_side tall i j side, address_side tall i' j' side', address_earlier tall i j i' j' h l)

-- The sides of a place are apart.
sides_apart :
    (tall i j side side' : ℕ) → (side < side') ⊎ (side' < side) → Apart (address tall i j side) (address tall i j side')
unfolding address
sides_apart tall i j side side' (inl l) = inl (omega arith)
sides_apart tall i j side side' (inr l) = inr (omega arith)

-- Distinct places, or distinct sides of a place, have no word in common.
pub address_apart :
    (tall i j side i' j' side' : ℕ) → i < tall → i' < tall → side ≤ 1 → side' ≤ 1
    → ((i ≡ i') × (j ≡ j') × (side ≡ side') → ⊥) → Apart (address tall i j side) (address tall i' j' side')
address_apart tall i j side i' j' side' h h' s s' differ = by_column (compared j j')
  where
    Goal : Type 0
    Goal = Apart (address tall i j side) (address tall i' j' side')

    first : Earlier i j i' j' → Goal
    first l = inl (address_before tall i j side i' j' side' h s l)

    second : Earlier i' j' i j → Goal
    second l = inr (address_before tall i' j' side' i j side h' s' l)

    by_side : j ≡ j' → i ≡ i' → (side < side') ⊎ ((side ≡ side') ⊎ (side' < side)) → Goal
    by_side e f (inl l) = rw (e, f) (sides_apart tall i' j' side side' (inl l))
    by_side e f (inr (inl g)) = absurd (differ (f, e, g))
    by_side e f (inr (inr l)) = rw (e, f) (sides_apart tall i' j' side side' (inr l))

    by_row : j ≡ j' → (i < i') ⊎ ((i ≡ i') ⊎ (i' < i)) → Goal
    by_row e (inl l) = first (inr (e, l))
    by_row e (inr (inl f)) = by_side e f (compared side side')
    by_row e (inr (inr l)) = second (inr (omega arith, l))

    by_column : (j < j') ⊎ ((j ≡ j') ⊎ (j' < j)) → Goal
    by_column (inl l) = first (inl l)
    by_column (inr (inl e)) = by_row e (compared i i')
    by_column (inr (inr l)) = second (inl l)

-- The five words of a place lie within those of the columns.
pub address_in : (tall i j side wide : ℕ) → i < tall → j < wide → side ≤ 1 → address tall i j side + 5 ≤ area tall wide
unfolding address area
address_in tall i j side wide h l s = omega (arith, column_first tall j wide l, mul_comm tall wide)

-- Fewer columns have fewer words.
pub area_grows : (tall some wide : ℕ) → some ≤ wide → area tall some ≤ area tall wide
unfolding area
area_grows tall some wide l = omega (arith, mul-le-mul_right tall l, mul_comm tall some, mul_comm tall wide)

-- Those of a column and of all later ones lie past those of the columns before it.
pub address_past : (tall i j side first : ℕ) → first ≤ j → area tall first ≤ address tall i j side
unfolding address area
address_past tall i j side first l = omega (arith, mul-le-mul_right tall l, mul_comm tall first)

-- With a row more than there are lines these are the words needed.
pub area_needed : (m wide : ℕ) → area (m + 1) wide ≡ words_needed m wide
unfolding area words_needed
area_needed m wide = refl

-- The product in an address is small.
pub column_small : (tall : ℕ) (place : Place) (side : ℕ) → Inside tall place side → place.column * tall ≤ 41010250
column_small tall place side r = mul-le-mul r.wide r.high

-- The product in the words needed is small.
pub words_small : (m wide : ℕ) → Limited m wide → (m + 1) * wide ≤ 41014251
words_small m wide r = mul-le-mul {n₁ = m + 1} {m₁ = wide} {n₂ = 4001} {m₂ = 10251} (omega arith) r.columns
