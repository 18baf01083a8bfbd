-- One stream at a time: the first c of its n blocks are those on page q or earlier. A count after each page and a map from
-- blocks to pages that are so related say the same.
use Rattle.std.specs.Prelude.{ℕ, zero, suc, ◌+◌, ◌-◌, ◌≤◌, ◌<◌, min, ◌≡◌, refl, ◌↔◌, Bool, true, false, leb, eqb}
use Rattle.std.proofs.Math.Nat.{le-suc_iff}
use Rattle.std.proofs.Common.{le_refl, le_trans, arith, ◌∙◌, ap, inl, inr, leb-true, leb-false, le-leb, eqb-true}
use Rattle.std.proofs.Math.Decide.{dec_le}
use Rattle.model.specs.Gather.{pick, one, sum, between}
use Rattle.model.proofs.laws.Gather.{sum_ext, between_sum}

-- The first c of n blocks are those that P has on page q or earlier.
pub record Fits (n q c : ℕ) (P : ℕ → ℕ) : Type 0 where
  pub top : c ≤ n
  pub early : (k : ℕ) → 1 ≤ k → k ≤ c → P k ≤ q
  pub late : (k : ℕ) → 1 ≤ k → k ≤ n → P k ≤ q → k ≤ c

-- An order need be shown of a number above 0 only.
le_positive : (a b : ℕ) → (1 ≤ a → a ≤ b) → a ≤ b
le_positive zero b h = omega arith
le_positive (suc a) b h = h (omega arith)

-- The blocks on page q or earlier, counted, are the first ones where no block is on an earlier page than the one before it.
pub count_fits : (n q : ℕ) (P : ℕ → ℕ) → ((k : ℕ) → 1 ≤ k → k < n → P k ≤ P (suc k))
    → Fits n q (sum n (λ k. one (leb (P k) q))) P
unfolding sum
count_fits zero q P up =
    record { top = le_refl 0; early = λ k a b. absurd (omega arith); late = λ k a b l. absurd (omega arith) }
count_fits (suc n) q P up = go (leb (P (suc n)) q) refl (count_fits n q P (λ k a b. up k a (omega arith)))
  where
    go : (b : Bool) → leb (P (suc n)) q ≡ b → Fits n q (sum n (λ k. one (leb (P k) q))) P
        → Fits (suc n) q (sum n (λ k. one (leb (P k) q)) + one b) P
    go true e F =
        let here = leb-true (P (suc n)) q e in
        let top = F.top in
        let all = le_positive n _ (λ i. F.late n i (le_refl n) (le_trans (up n i (le_refl (suc n))) here)) in
        let early : (k : ℕ) → 1 ≤ k → k ≤ suc n → P k ≤ q =
        λ k a b. elim (le-suc_iff.0 b) [ inl l ↦ F.early k a (omega arith) | inr j ↦ rw j here ] in
        record { top = omega arith; early = λ k a b. early k a (omega arith); late = λ k a b l. omega arith }
    go false e F =
        let here = leb-false (P (suc n)) q e in
        let top = F.top in
        let within : (k : ℕ) → k ≤ suc n → P k ≤ q → k ≤ n =
        λ k b l. elim (le-suc_iff.0 b) [ inl m ↦ m | inr j ↦ absurd (let m = rw j at l in omega arith) ] in
        record {
          top = omega arith;
          early = λ k a b. F.early k a (omega arith);
          late = λ k a b l. (let r = F.late k a (within k b l) l in omega arith);
        }

-- A sum over what a test admits is the sum over an interval, where the test admits just that.
pub sum_window : (n a b : ℕ) (test : ℕ → Bool) (f : ℕ → ℕ) → b ≤ n
    → ((k : ℕ) → 1 ≤ k → k ≤ n → (test k ≡ true) ↔ ((a < k) × (k ≤ b)))
    → sum n (λ k. pick (test k) (f k) 0) ≡ between a b f
unfolding sum between
sum_window zero a b test f l h = ap (λ d. sum d (λ k. f (a + k))) (let e : 0 ≡ b - a = omega arith in e)
sum_window (suc n) a b test f l h =
    go (test (suc n)) refl (dec_le (suc n) a)
    (sum_window n a (min b n) test f (omega arith)
    (λ k p q. (λ t. let r = (h k p (omega arith)).0 t in (omega arith), λ r. (h k p (omega arith)).1 (omega arith))))
  where
    shorter : min b n - a ≡ b - a → between a (min b n) f ≡ between a b f
    shorter e = ap (λ d. sum d (λ k. f (a + k))) e

    go : (t : Bool) → test (suc n) ≡ t → Dec (suc n ≤ a) → sum n (λ k. pick (test k) (f k) 0) ≡ between a (min b n) f
        → sum n (λ k. pick (test k) (f k) 0) + pick t (f (suc n)) 0 ≡ between a b f
    go true e d below =
        let r = (h (suc n) (omega arith) (le_refl (suc n))).0 e in
        let to_b = between_sum a b f (omega arith) in
        let to_n = between_sum a (min b n) f (omega arith) in
        let n_is : sum (min b n) f ≡ sum n f = ap (λ m. sum m f) (let i : min b n ≡ n = omega arith in i) in
        let b_is : sum b f ≡ sum (suc n) f = ap (λ m. sum m f) (let i : b ≡ suc n = omega arith in i) in
        omega arith
    go false e (yes p) below = let same = shorter (omega arith) in omega arith
    go false e (no p) below =
        let held = (h (suc n) (omega arith) (le_refl (suc n))).1 in
        let out : ¬ (suc n ≤ b) = λ q. (let z : ◌≡◌ {A = ℕ} 0 1 = cc (held ((omega arith), q)) in omega arith) in
        let same = shorter (omega arith) in
        omega arith

sum_ones : (n : ℕ) → sum n (λ k. 1) ≡ n
unfolding sum
sum_ones zero = refl
sum_ones (suc n) = let below = sum_ones n in omega arith

-- What a test admits, counted, is the length of the interval that it admits.
pub count_window : (n a b : ℕ) (test : ℕ → Bool) → b ≤ n
    → ((k : ℕ) → 1 ≤ k → k ≤ n → (test k ≡ true) ↔ ((a < k) × (k ≤ b)))
    → sum n (λ k. one (test k)) ≡ b - a
unfolding between
count_window n a b test l h =
    sum_ext n _ _ (λ k p q. one_pick (test k)) ∙ sum_window n a b test (λ k. 1) l h ∙ sum_ones (b - a)
  where
    one_pick : (t : Bool) → one t ≡ pick t 1 0
    one_pick true = refl
    one_pick false = refl

-- The blocks on page q + 1 are those after the first a and up to the first b.
pub fits_page : {n q a b : ℕ} {P : ℕ → ℕ} → Fits n q a P → Fits n (suc q) b P
    → (k : ℕ) → 1 ≤ k → k ≤ n → (eqb (P k) (suc q) ≡ true) ↔ ((a < k) × (k ≤ b))
fits_page {n} {q} {a} {b} {P} F G k i j = (to, from)
  where
    to : eqb (P k) (suc q) ≡ true → (a < k) × (k ≤ b)
    to e = grind arith

    from : (a < k) × (k ≤ b) → eqb (P k) (suc q) ≡ true
    from r = grind arith

-- The counts are known from the map: c is the number of blocks on page q or earlier.
pub fits_count : {n q c : ℕ} {P : ℕ → ℕ} → Fits n q c P → sum n (λ k. one (leb (P k) q)) ≡ c
fits_count {n} {q} {c} {P} F =
    count_window n 0 c (λ k. leb (P k) q) F.top
    (λ k i j. (λ t. (i, F.late k i j (leb-true (P k) q t)), λ r. le-leb (P k) q (F.early k i r.1)))
    ∙ (let e : c - 0 ≡ c = omega arith in e)

module _ {n q a : ℕ} {P : ℕ → ℕ} (F : Fits n q a P) where
  -- Where no block is on page q or earlier none is counted, and where all are all are counted.
  pub fits_none : ((k : ℕ) → 1 ≤ k → k ≤ n → q < P k) → a ≡ 0
  fits_none h =
      let top = F.top in
      let no_more = le_positive a 0 (λ i. absurd (let l = h a i top in let m = F.early a i (le_refl a) in omega arith)) in
      omega arith

  pub fits_all : ((k : ℕ) → 1 ≤ k → k ≤ n → P k ≤ q) → a ≡ n
  fits_all h =
      let top = F.top in
      let all = le_positive n a (λ i. F.late n i (le_refl n) (h n i (le_refl n))) in
      omega arith

  -- Counts rise from page to page, and the last block of a page that has one is on it.
  pub fits_up : {r b : ℕ} → Fits n r b P → q ≤ r → a ≤ b
  fits_up {r} {b} G l = le_positive a b (λ i. G.late a i F.top (le_trans (F.early a i (le_refl a)) l))

  pub fits_last : {b : ℕ} → Fits n (suc q) b P → a < b → P b ≡ suc q
  fits_last {b} G l = eqb-true (P b) (suc q) ((fits_page F G b (omega arith) G.top).1 (l, le_refl b))
