-- The most consecutive blocks of a stream that are not too high by themselves.
use Rattle.std.specs.Prelude.{ℕ, zero, suc, ◌+◌, ◌-◌, ◌≤◌, ◌<◌, ◌≡◌, refl, ◌⊎◌, Bool, true, false, not, leb}
use Rattle.std.proofs.Common.{le_refl, arith, sym, ap, subst, inl, inr, le-leb}
use Rattle.std.proofs.Math.Decide.{dec_le}
use Rattle.std.proofs.lemmas.Bool.{lt-leb}
use Rattle.model.specs.Gather.{pick, every}
use Rattle.model.specs.Galley.{Stream, Galley}
use Rattle.model.specs.Height.{stacked}
use Rattle.model.specs.Weighed.{greatest, together, most_together}
use Rattle.model.proofs.laws.Gather.{every_at, every_of}

-- The greatest number that passes is no less than any that does.
greatest_has : (n : ℕ) (test : ℕ → Bool) (k : ℕ) → k ≤ n → test k ≡ true → k ≤ greatest n test
unfolding greatest
greatest_has zero test k h t = h
greatest_has (suc n) test k h t = go (test (suc n)) refl (λ l. greatest_has n test k l t)
  where
    go : (b : Bool) → test (suc n) ≡ b → (k ≤ n → k ≤ greatest n test) → k ≤ pick b (suc n) (greatest n test)
    go true e below = h
    go false e below = low (dec_le k n)
      where
        low : Dec (k ≤ n) → k ≤ greatest n test
        low (yes l) = below l
        low (no l) = let s : k ≡ suc n = omega arith in let z : ◌≡◌ {A = ℕ} 0 1 = cc (ap test s) in absurd (omega arith)

-- Some blocks that stand together.
together_has : (g : Galley) (st : Stream) (k a : ℕ) → a + k ≤ st.size → stacked st st.least a (a + k) ≤ g.spec.htmax
    → together g st k ≡ true
unfolding together
together_has g st k a top low =
    go (every (st.size - k) (λ c. not (leb (stacked st st.least c (c + k)) g.spec.htmax))) refl
  where
    go : (t : Bool) → every (st.size - k) (λ c. not (leb (stacked st st.least c (c + k)) g.spec.htmax)) ≡ t → not t ≡ true
    go false e = refl
    go true e =
        let none = every_at _ _ e a (omega arith) in
        let fine = le-leb (stacked st st.least a (a + k)) g.spec.htmax low in
        let z : ◌≡◌ {A = ℕ} 0 1 = cc in
        absurd (omega arith)

-- Blocks that are not too high by themselves are no more than the most that may stand together.
pub run_few : (g : Galley) (st : Stream) (a b : ℕ) → a ≤ b → b ≤ st.size
    → stacked st st.least a b ≤ g.spec.htmax → b - a ≤ most_together g st
unfolding most_together
run_few g st a b up top low =
    let back : a + (b - a) ≡ b = omega arith in
    greatest_has st.size (together g st) (b - a) (omega arith)
    (together_has g st (b - a) a (omega arith) (subst (λ c. stacked st st.least a c ≤ g.spec.htmax) (sym back) low))

-- It is the greatest where it passes and none above it does.
greatest_is : (m : ℕ) (test : ℕ → Bool) (n : ℕ) → n ≤ m → (n ≡ 0) ⊎ (test n ≡ true) → ((k : ℕ) → n < k → k ≤ m → test k ≡ false)
    → n ≡ greatest m test
unfolding greatest
greatest_is zero test n top has none = omega arith
greatest_is (suc m) test n top has none =
    go (test (suc m)) refl (λ l. greatest_is m test n l has (λ k p q. none k p (omega arith)))
  where
    go : (b : Bool) → test (suc m) ≡ b → (n ≤ m → n ≡ greatest m test) → n ≡ pick b (suc m) (greatest m test)
    go true e below = high (dec_le n m)
      where
        high : Dec (n ≤ m) → n ≡ suc m
        high (yes l) = let f = none (suc m) (omega arith) (le_refl (suc m)) in let z : ◌≡◌ {A = ℕ} 0 1 = cc in absurd (omega arith)
        high (no l) = omega arith
    go false e below = low (dec_le n m) has
      where
        low : Dec (n ≤ m) → (n ≡ 0) ⊎ (test n ≡ true) → n ≡ greatest m test
        low (yes l) h = below l
        low (no l) (inl z) = absurd (omega arith)
        low (no l) (inr t) = let s : n ≡ suc m = omega arith in let z : ◌≡◌ {A = ℕ} 0 1 = cc (ap test s) in absurd (omega arith)

-- So many blocks that stand together somewhere in a stream, where no more do, are the most.
pub most_is : (g : Galley) (st : Stream) (n : ℕ) → n ≤ st.size
    → (n ≡ 0) ⊎ ((c : ℕ) × (c + n ≤ st.size) × (stacked st st.least c (c + n) ≤ g.spec.htmax))
    → ((c k : ℕ) → n < k → c + k ≤ st.size → g.spec.htmax < stacked st st.least c (c + k)) → n ≡ most_together g st
unfolding most_together together
most_is g st n top has none = greatest_is st.size (together g st) n top (some has) (λ k l h. many k l h)
  where
    tall : ℕ → ℕ → Bool
    tall k c = not (leb (stacked st st.least c (c + k)) g.spec.htmax)

    some : (n ≡ 0) ⊎ ((c : ℕ) × (c + n ≤ st.size) × (stacked st st.least c (c + n) ≤ g.spec.htmax))
        → (n ≡ 0) ⊎ (together g st n ≡ true)
    some (inl e) = inl e
    some (inr (c, w, l)) = inr (together_has g st n c w l)

    many : (k : ℕ) → n < k → k ≤ st.size → together g st k ≡ false
    many k l h =
        ap not
        (every_of (st.size - k) (tall k)
        (λ c m. let high = none c k l (omega arith) in ap not (lt-leb (stacked st st.least c (c + k)) g.spec.htmax high)))
