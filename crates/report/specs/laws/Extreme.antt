-- The least and the greatest of f 1 to f n: reached by one of them, and a bound of each.
use Prim.Native.Nat.{ℕ, zero, suc, ◌≤◌}
use Rattle.std.proofs.Math.Nat.{le-suc_iff}
use native.Mathlib.Omega.{arith}
use Rattle.std.specs.Prelude.{◌≡◌, refl, ◌⊎◌, Bool, true, false, leb}
use Rattle.std.proofs.Common.{sym, ◌∙◌, inl, inr, leb-true, leb-false}
use Rattle.report.specs.Report.{extreme}

-- Of two numbers either is not above the other.
pub either : {P Q : Type 0} (a b : ℕ) → (a ≤ b → P) → (b ≤ a → Q) → P ⊎ Q
either {P} {Q} a b p q = go (leb a b) refl
  where
    go : (t : Bool) → leb a b ≡ t → P ⊎ Q
    go true e = inl (p (leb-true a b e))
    go false e = let l = leb-false a b e in inr (q (omega arith))

-- A number from 1 to n at which f is v.
abbrev pub Reached : ℕ → (ℕ → ℕ) → ℕ → Type 0
Reached n f v = (k : ℕ) × (1 ≤ k) × (k ≤ n) × (f k ≡ v)

-- An operation that answers one of its two numbers answers one of many.
pub extreme_reached : (op : ℕ → ℕ → ℕ) → ((a b : ℕ) → (op a b ≡ a) ⊎ (op a b ≡ b)) → (n : ℕ) (f : ℕ → ℕ) → 1 ≤ n → Reached n f (extreme op n f)
unfolding extreme
extreme_reached op one zero f h = absurd (omega arith)
extreme_reached op one (suc zero) f h = (1, omega arith, omega arith, refl)
extreme_reached op one (suc (suc n)) f h = go (one (extreme op (suc n) f) (f (suc (suc n)))) (extreme_reached op one (suc n) f (omega arith))
  where
    go : (op (extreme op (suc n) f) (f (suc (suc n))) ≡ extreme op (suc n) f) ⊎ (op (extreme op (suc n) f) (f (suc (suc n))) ≡ f (suc (suc n)))
        → Reached (suc n) f (extreme op (suc n) f) → Reached (suc (suc n)) f (op (extreme op (suc n) f) (f (suc (suc n))))
    go (inl e) (k, p, q, v) = (k, p, omega arith, v ∙ sym e)
    go (inr e) r = (suc (suc n), omega arith, omega arith, sym e)

-- An operation whose answer is in order with both its numbers is in order with each of many.
module _ (op : ℕ → ℕ → ℕ) (R : ℕ → ℕ → Type 0) (self : (a : ℕ) → R a a) (chain : (a b c : ℕ) → R a b → R b c → R a c) (left : (a b : ℕ) → R (op a b) a) (right : (a b : ℕ) → R (op a b) b) where
  pub extreme_bounds : (n : ℕ) (f : ℕ → ℕ) (k : ℕ) → 1 ≤ k → k ≤ n → R (extreme op n f) (f k)
  unfolding extreme
  extreme_bounds zero f k p q = absurd (omega arith)
  extreme_bounds (suc zero) f k p q = let e : k ≡ 1 = omega arith in rw e (self (f 1))
  extreme_bounds (suc (suc n)) f k p q = go (le-suc_iff.0 q) (λ r. extreme_bounds (suc n) f k p r)
    where
      go : (k ≤ suc n) ⊎ (k ≡ suc (suc n)) → (k ≤ suc n → R (extreme op (suc n) f) (f k)) → R (op (extreme op (suc n) f) (f (suc (suc n)))) (f k)
      go (inl r) below = chain _ _ _ (left (extreme op (suc n) f) (f (suc (suc n)))) (below r)
      go (inr e) below = rw e (right (extreme op (suc n) f) (f (suc (suc n))))
