-- The first of 1 to n at which a test holds.
use Rattle.std.specs.Prelude.{ℕ, zero, suc, ◌≤◌, ◌<◌, ◌≡◌, refl, ◌⊎◌, Bool, true, false, Option, Some, None}
use Rattle.std.specs.Option.{option_or}
use Rattle.std.proofs.Math.Nat.{le-suc_iff}
use Rattle.std.proofs.Common.{arith, ap, ◌∙◌, inl, inr}
use Rattle.model.specs.Gather.{pick}
use Rattle.report.specs.Report.{first}

-- A test fails at each number from 1 up to and with n.
abbrev pub Fails : ℕ → (ℕ → Bool) → Type 0
Fails n f = (k : ℕ) → 1 ≤ k → k ≤ n → f k ≡ false

-- None where the test fails at each of 1 to n, else the first at which it holds.
pub data First (n : ℕ) (f : ℕ → Bool) : Option ℕ → Type 0 where
  nowhere : Fails n f → First n f None
  somewhere : {j : ℕ} → j < n → f (suc j) ≡ true → Fails j f → First n f (Some (suc j))

-- It fails up to n + 1 where it fails up to n and there.
fails_next : (n : ℕ) (f : ℕ → Bool) → Fails n f → f (suc n) ≡ false → Fails (suc n) f
fails_next n f below e k p q = go (le-suc_iff.0 q)
  where
    go : (k ≤ n) ⊎ (k ≡ suc n) → f k ≡ false
    go (inl r) = below k p r
    go (inr s) = ap f s ∙ e

-- What the definition finds is the first.
pub first_is : (n : ℕ) (f : ℕ → Bool) → First n f (first n f)
unfolding first
first_is zero f = nowhere (λ k p q. absurd (omega arith))
first_is (suc n) f = go (f (suc n)) refl (first_is n f)
  where
    go : (b : Bool) → f (suc n) ≡ b → {o : Option ℕ} → First n f o → First (suc n) f (option_or o (pick b (Some (suc n)) None))
    go true e (nowhere none) = somewhere {j = n} (omega arith) e none
    go false e (nowhere none) = nowhere (fails_next n f none e)
    go b e (somewhere {j} low holds none) = somewhere {j = j} (omega arith) holds none

-- It is one of them.
low : {n : ℕ} {f : ℕ → Bool} {o : Option ℕ} → First n f o → (j : ℕ) → o ≡ Some j → j ≤ n
low (nowhere none) j e = absurd cc
low (somewhere {j = i} under holds none) j e = let same : suc i ≡ j = cc in omega arith

pub first_low : (n : ℕ) (f : ℕ → Bool) (j : ℕ) → first n f ≡ Some j → j ≤ n
first_low n f = low (first_is n f)
