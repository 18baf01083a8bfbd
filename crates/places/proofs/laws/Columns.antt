-- Columns number the float places inside the sizes, one to one, and what is earlier in every stream is earlier in number.
use Rattle.std.specs.Prelude.{ℕ, zero, suc, ◌+◌, ◌*◌, ◌/◌, ◌%◌, ◌≤◌, ◌<◌, ◌≡◌, refl, List, [], ◌∷◌}
use Rattle.std.proofs.Common.{get_or, suc-mul, mul-le-mul_right, mod-eq_of_lt, div-add-mod', mod-lt, div-lt_iff_lt-mul, arith, ◌∙◌, ap}
use Rattle.std.proofs.Math.Nat.{mul-add-div_right, mul-add-mod_self_right, div-eq_of_lt}
use Rattle.model.specs.laws.Lists.{Inside}
use Rattle.places.specs.Columns.{columns, column_of, floats_at}

-- What is inside, count by count.
pub inside_head : (n j : ℕ) (ns js : List ℕ) → Inside (n ∷ ns) (j ∷ js) → j ≤ n
inside_head n j ns js h = h.under 0

pub inside_tail : (n j : ℕ) (ns js : List ℕ) → Inside (n ∷ ns) (j ∷ js) → Inside ns js
inside_tail n j ns js h = let e = h.long in record { long = omega arith; under = λ s. h.under (suc s) }

pub inside_cons : (n j : ℕ) (ns js : List ℕ) → j ≤ n → Inside ns js → Inside (n ∷ ns) (j ∷ js)
inside_cons n j ns js h k = record { long = ap suc k.long; under = under }
  where
    under : (s : ℕ) → get_or (j ∷ js) s 0 ≤ get_or (n ∷ ns) s 0
    under zero = h
    under (suc r) = k.under r

pub columns_some : (ns : List ℕ) → 0 < columns ns
unfolding columns
columns_some [] = omega arith
columns_some (n ∷ ns) = omega (arith, columns_some ns, suc-mul n (columns ns))

-- A float place inside the sizes has a column.
pub column_below : (ns js : List ℕ) → Inside ns js → column_of ns js < columns ns
unfolding columns column_of
column_below [] js h = omega arith
column_below (n ∷ ns) [] h = absurd (omega (arith, h.long))
column_below (n ∷ ns) (j ∷ js) h =
    omega (arith, column_below ns js (inside_tail n j ns js h), mul-le-mul_right (columns ns) (inside_head n j ns js h), suc-mul n (columns ns))

-- The floats of a place's column are the place's.
pub floats_of_column : (ns js : List ℕ) → Inside ns js → floats_at ns (column_of ns js) ≡ js
unfolding column_of floats_at
floats_of_column [] [] h = refl
floats_of_column [] (j ∷ js) h = absurd (omega (arith, h.long))
floats_of_column (n ∷ ns) [] h = absurd (omega (arith, h.long))
floats_of_column (n ∷ ns) (j ∷ js) h =
    let below = column_below ns js (inside_tail n j ns js h) in
    let q : (j * columns ns + column_of ns js) / columns ns ≡ j =
    mul-add-div_right (columns_some ns) j (column_of ns js) ∙ ap (λ x. j + x) (div-eq_of_lt below) ∙ omega arith in
    let r : (j * columns ns + column_of ns js) % columns ns ≡ column_of ns js =
    mul-add-mod_self_right j (columns ns) (column_of ns js) ∙ mod-eq_of_lt below in
    rw (q, r) (ap (λ x. j ∷ x) (floats_of_column ns js (inside_tail n j ns js h)))

-- A column has a float place inside the sizes,
pub floats_inside : (ns : List ℕ) (c : ℕ) → c < columns ns → Inside ns (floats_at ns c)
unfolding columns floats_at
floats_inside [] c h = record { long = refl; under = λ s. omega arith }
floats_inside (n ∷ ns) c h =
    let low : c / columns ns < suc n = (div-lt_iff_lt-mul (columns_some ns)).1 h in
    inside_cons n (c / columns ns) ns (floats_at ns (c % columns ns)) (omega arith)
    (floats_inside ns (c % columns ns) (mod-lt c (columns_some ns)))

-- whose column it is.
pub column_of_floats : (ns : List ℕ) (c : ℕ) → c < columns ns → column_of ns (floats_at ns c) ≡ c
unfolding columns column_of floats_at
column_of_floats [] c h = omega arith
column_of_floats (n ∷ ns) c h =
    rw (column_of_floats ns (c % columns ns) (mod-lt c (columns_some ns))) (div-add-mod' c (columns ns))

-- What is no later in any stream is no later in number.
pub column_grows : (ns js ks : List ℕ) → Inside ks js → column_of ns js ≤ column_of ns ks
unfolding column_of
column_grows [] js ks h = omega arith
column_grows (n ∷ ns) [] ks h = omega arith
column_grows (n ∷ ns) (j ∷ js) [] h = absurd (omega (arith, h.long))
column_grows (n ∷ ns) (j ∷ js) (k ∷ ks) h =
    omega (arith, column_grows ns js ks (inside_tail k j ks js h), mul-le-mul_right (columns ns) (inside_head k j ks js h))

-- Nothing is placed at column 0,
pub column_empty : (ns : List ℕ) → column_of ns [] ≡ 0
unfolding column_of
column_empty [] = refl
column_empty (n ∷ ns) = refl

-- and everything at the last.
pub inside_all : (ns : List ℕ) → Inside ns ns
inside_all ns = record { long = refl; under = λ s. omega arith }

pub column_all : (ns : List ℕ) → suc (column_of ns ns) ≡ columns ns
unfolding columns column_of
column_all [] = refl
column_all (n ∷ ns) = omega (arith, column_all ns, suc-mul n (columns ns))

pub floats_all : (ns : List ℕ) (c : ℕ) → suc c ≡ columns ns → floats_at ns c ≡ ns
floats_all ns c h =
    let e : c ≡ column_of ns ns = omega (arith, column_all ns) in
    rw e (floats_of_column ns ns (inside_all ns))
