-- The first number at which f is no less than a target, found by passing over one after another: up to the number a that is
-- looked at there is none, so that a is the first before a itself.
use Rattle.std.specs.Prelude.{ℕ, suc, ◌+◌, ◌≤◌, ◌<◌, ◌≡◌}
use Rattle.std.proofs.Math.Decide.{dec_le}
use Rattle.std.proofs.Common.{arith, ap}
use Rattle.window.specs.First.{First}

-- Before the first number looked at there is none.
pub first_start : (f : ℕ → ℕ) (target head : ℕ) → First f target head head head
first_start f target head = omega arith

-- One number more is passed over.
pub first_next : {f : ℕ → ℕ} {target head a : ℕ} → First f target head a a → f a < target
    → First f target head (a + 1) (a + 1)
first_next {f} {target} {head} {a} h less =
    record {
      from = omega (arith, h.from);
      to = omega arith;
      passed = λ k l m. go k l m (dec_le (suc k) a);
      kept = λ l. absurd (omega arith);
    }
  where
    go : (k : ℕ) → head ≤ k → k < a + 1 → Dec (suc k ≤ a) → f k < target
    go k l m (yes p) = h.passed k l p
    go k l m (no p) =
        let last : k ≡ a = omega arith in
        let same = ap f last in
        omega arith

-- The number looked at is it, or it is the last.
pub first_found : {f : ℕ → ℕ} {target head a : ℕ} (tail : ℕ) → First f target head a a → a ≤ tail → (a < tail → target ≤ f a)
    → First f target head tail a
first_found tail h within kept = record { from = h.from; to = within; passed = h.passed; kept = kept }
