-- The model's tie order on places is the order of line and column, later first.
use Rattle.std.specs.Prelude.{ℕ, ◌+◌, ◌*◌, ◌≤◌, ◌<◌, ◌≡◌, refl, ◌↔◌, Bool, true, false, ◌&&◌, List, [], ◌∷◌, leb}
use Rattle.std.proofs.Common.{suc-mul, mul-le-mul_right, arith, sym, ◌∙◌, ap, inl, inr, leb-true, le-leb}
use Rattle.std.proofs.Math.Decide.{dec_le, dec_lt}
use Rattle.std.proofs.lemmas.Bool.{lt-leb}
use Rattle.model.specs.Gather.{implies}
use Rattle.model.specs.Order.{lex, geb}
use Rattle.model.proofs.laws.Gather.{and_left, and_right, implies_at}
use Rattle.model.specs.laws.Lists.{Inside}
use Rattle.places.specs.Columns.{columns, column_of}
use Rattle.places.specs.Order.{NoLater}
use Rattle.places.proofs.laws.Columns.{inside_tail, column_below}

-- An earlier first count is an earlier column, whatever follows.
column_first : (c j k x y : ℕ) → x < c → j < k → j * c + x < k * c + y
column_first c j k x y h l = omega (arith, mul-le-mul_right c l, suc-mul j c)

-- Two orders of numbers.
same_tests : (a b c d : ℕ) → (a ≤ b → c ≤ d) → (c ≤ d → a ≤ b) → leb a b ≡ leb c d
same_tests a b c d f g = go (dec_le a b)
  where
    go : Dec (a ≤ b) → leb a b ≡ leb c d
    go (yes h) = le-leb a b h ∙ sym (le-leb c d (f h))
    go (no h) =
        let away : ¬ (c ≤ d) = λ k. h (g k) in
        lt-leb a b (omega arith) ∙ sym (lt-leb c d (omega arith))

-- Of two float places inside the sizes, that of the greater column comes first.
pub column_order : (ns js ks : List ℕ) → Inside ns js → Inside ns ks
    → lex geb js ks ≡ geb (column_of ns js) (column_of ns ks)
unfolding lex geb column_of
column_order [] [] [] h k = refl
column_order [] (j ∷ js) ks h k = absurd (omega (arith, h.long))
column_order [] [] (y ∷ ks) h k = absurd (omega (arith, k.long))
column_order (n ∷ ns) [] ks h k = absurd (omega (arith, h.long))
column_order (n ∷ ns) (j ∷ js) [] h k = absurd (omega (arith, k.long))
column_order (n ∷ ns) (j ∷ js) (y ∷ ks) h k =
    go (dec_lt j y) (dec_lt y j) (column_order ns js ks (inside_tail n j ns js h) (inside_tail n y ns ks k))
  where
    x : ℕ
    x = column_of ns js

    z : ℕ
    z = column_of ns ks

    go : Dec (j < y) → Dec (y < j) → lex geb js ks ≡ leb z x
        → leb y j && implies (leb j y) (lex geb js ks) ≡ leb (y * columns ns + z) (j * columns ns + x)
    go (yes l) d e =
        let m = column_first (columns ns) j y x z (column_below ns js (inside_tail n j ns js h)) l in
        simp (lt-leb y j l, lt-leb (y * columns ns + z) (j * columns ns + x) m)
    go (no l) (yes l') e =
        let m = column_first (columns ns) y j z x (column_below ns ks (inside_tail n y ns ks k)) l' in
        simp (le-leb y j (omega arith), lt-leb j y l', le-leb (y * columns ns + z) (j * columns ns + x) (omega arith))
    go (no l) (no l') e =
        let q : j ≡ y = omega arith in
        simp (le-leb y j (omega arith), le-leb j y (omega arith), e)
        (same_tests z x (y * columns ns + z) (j * columns ns + x) (λ a. rw q (omega arith)) (λ a. let b = rw q at a in omega arith))

last_test : (x y : Bool) → x && implies y true ≡ x
last_test true true = refl
last_test true false = refl
last_test false y = refl

-- The tie order on places is that of line, then column,
pub place_order : (ns : List ℕ) (i a : ℕ) (js ks : List ℕ) → Inside ns js → Inside ns ks
    → lex geb (i ∷ js) (a ∷ ks) ≡ lex geb (i ∷ column_of ns js ∷ []) (a ∷ column_of ns ks ∷ [])
unfolding lex
place_order ns i a js ks h k =
    ap (λ t. geb i a && implies (geb a i) t)
    (column_order ns js ks h k ∙ sym (last_test (geb (column_of ns js) (column_of ns ks)) (geb (column_of ns ks) (column_of ns js))))

pair_order : (i c a b : ℕ) → (lex geb (i ∷ c ∷ []) (a ∷ b ∷ []) ≡ true) ↔ NoLater a b i c
unfolding lex geb
pair_order i c a b = (out, into)
  where
    out : leb a i && implies (leb i a) (leb b c && implies (leb c b) true) ≡ true → NoLater a b i c
    out h = go (dec_lt a i)
      where
        le : a ≤ i
        le = leb-true a i (and_left (leb a i) (implies (leb i a) (leb b c && implies (leb c b) true)) h)

        go : Dec (a < i) → NoLater a b i c
        go (yes l) = inl l
        go (no l) =
            let both = implies_at (leb i a) (leb b c && implies (leb c b) true)
            (and_right (leb a i) (implies (leb i a) (leb b c && implies (leb c b) true)) h) (le-leb i a (omega arith)) in
            inr (omega (arith, le), leb-true b c (and_left (leb b c) (implies (leb c b) true) both))

    into : NoLater a b i c → leb a i && implies (leb i a) (leb b c && implies (leb c b) true) ≡ true
    into (inl l) = simp (le-leb a i (omega arith), lt-leb i a l)
    into (inr (e, l)) =
        simp (le-leb a i (omega arith), le-leb i a (omega arith)) (last_test (leb b c) (leb c b) ∙ le-leb b c l)

-- so that a place comes first exactly where it is no earlier by line and column.
pub place_first : (ns : List ℕ) (i a : ℕ) (js ks : List ℕ) → Inside ns js → Inside ns ks
    → (lex geb (i ∷ js) (a ∷ ks) ≡ true) ↔ NoLater a (column_of ns ks) i (column_of ns js)
place_first ns i a js ks h k = rw (place_order ns i a js ks h k) (pair_order i (column_of ns js) a (column_of ns ks))
