-- Blocks stacked on a page: one more at the end, one more at the front, and how high they can get.
use Prim.Native.Nat.{ℕ, zero, suc, pred, ◌+◌, ◌-◌, ◌*◌, ◌≤◌, ◌<◌}
use Rattle.std.proofs.Math.Decide.{dec_le}
use Rattle.std.proofs.Math.Numerals.{add-one}
use native.Mathlib.Omega.{arith}
use Rattle.std.specs.Prelude.{◌≡◌, refl, Bool}
use Rattle.std.proofs.Math.Bool.{true, false}
use Rattle.std.proofs.Math.Dec.{ltb}
use borrow.Author.Tests.{ltb-true, ltb-false}
use Rattle.model.specs.Gather.{pick, sum, between}
use Rattle.model.specs.Galley.{Stream}
use Rattle.model.specs.Height.{stacked}
use Rattle.model.proofs.laws.Gather.{between_sum}
use Rattle.model.proofs.laws.Height.{between_none}

-- The last of what stands between a and k + 1, and what comes before it.
between_next : (f : ℕ → ℕ) (a k : ℕ) → a ≤ k → between a (suc k) f ≡ between a k f + f (suc k)
unfolding sum
between_next f a k h =
    let here = between_sum a k f h in
    let next = between_sum a (suc k) f (omega arith) in
    omega arith

-- The first of what stands between a and b, and the rest.
between_front : (f : ℕ → ℕ) (a b : ℕ) → a < b → between a b f ≡ between (suc a) b f + f (suc a)
unfolding sum
between_front f a b h =
    let whole = between_sum a b f (omega arith) in
    let rest = between_sum (suc a) b f h in
    omega arith

between_low : (f : ℕ → ℕ) (n : ℕ) → ((k : ℕ) → 1 ≤ k → k ≤ n → f k ≤ 100000) → (a b : ℕ) → b ≤ n
    → between a b f ≤ (b - a) * 100000
unfolding between sum
between_low f n h a b l = go (dec_le a b)
  where
    few : (d : ℕ) → a + d ≤ n → sum d (λ k. f (a + k)) ≤ d * 100000
    few zero m = omega arith
    few (suc d) m =
        let below = few d (omega arith) in
        let here = h (a + suc d) (omega arith) m in
        omega arith

    go : Dec (a ≤ b) → sum (b - a) (λ k. f (a + k)) ≤ (b - a) * 100000
    go (yes m) = few (b - a) (omega arith)
    go (no m) = let e : b - a ≡ 0 = omega arith in rw e (omega arith)

module _ (st : Stream) (gap : ℕ → ℕ) where
  -- No block, no height.
  pub stacked_none : (a b : ℕ) → b ≤ a → stacked st gap a b ≡ 0
  unfolding stacked
  stacked_none a b h =
      let blocks = between_none st.ht a b h in
      let spaces = between_none gap a (pred b) (omega arith) in
      omega arith

  -- One block more at the end, with the space before it where that is on the page.
  pub stacked_next : (a k : ℕ) → a ≤ k → stacked st gap a (k + 1) ≡ stacked st gap a k + (st.ht (k + 1) + pick (ltb a k) (gap k) 0)
  unfolding stacked
  stacked_next a k h = rw add-one (go k h (ltb a k) refl)
    where
      go : (k : ℕ) → a ≤ k → (b : Bool) → ltb a k ≡ b
          → between a (suc k) st.ht + between a k gap
          ≡ between a k st.ht + between a (pred k) gap + (st.ht (suc k) + pick b (gap k) 0)
      go zero h true e = let l = ltb-true a 0 e in absurd (omega arith)
      go (suc k) h true e =
          let l = ltb-true a (suc k) e in
          let blocks = between_next st.ht a (suc k) h in
          let spaces = between_next gap a k (omega arith) in
          omega arith
      go k h false e =
          let l = ltb-false a k e in
          let blocks = between_next st.ht a k h in
          let spaces = between_none gap a k (omega arith) in
          let fewer = between_none gap a (pred k) (omega arith) in
          omega arith

  -- One block more at the front, with the space after it where that is on the page.
  pub stacked_front : (a b : ℕ) → a < b
      → stacked st gap a b ≡ stacked st gap (a + 1) b + (st.ht (a + 1) + pick (ltb (a + 1) b) (gap (a + 1)) 0)
  unfolding stacked
  stacked_front a b h = rw add-one (go (ltb (suc a) b) refl)
    where
      go : (t : Bool) → ltb (suc a) b ≡ t
          → between a b st.ht + between a (pred b) gap
          ≡ between (suc a) b st.ht + between (suc a) (pred b) gap + (st.ht (suc a) + pick t (gap (suc a)) 0)
      go true e =
          let l = ltb-true (suc a) b e in
          let blocks = between_front st.ht a b h in
          let spaces = between_front gap a (pred b) (omega arith) in
          omega arith
      go false e =
          let l = ltb-false (suc a) b e in
          let blocks = between_front st.ht a b h in
          let spaces = between_none gap a (pred b) (omega arith) in
          let fewer = between_none gap (suc a) (pred b) (omega arith) in
          omega arith

  -- Blocks and spaces within document 01's limit make no height beyond a word.
  pub stacked_low : (n : ℕ) → ((k : ℕ) → 1 ≤ k → k ≤ n → st.ht k ≤ 100000) → ((k : ℕ) → 1 ≤ k → k ≤ n → gap k ≤ 100000)
      → (a b : ℕ) → b ≤ n → stacked st gap a b ≤ (b - a) * 200000
  unfolding stacked
  stacked_low n h l a b m =
      let blocks = between_low st.ht n h a b m in
      let spaces = between_low gap n l a (pred b) (omega arith) in
      omega arith
