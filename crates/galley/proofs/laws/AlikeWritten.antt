-- Galleys written from values that differ in htMin alone are alike in all but that field.
use Rattle.std.specs.Prelude.{ℕ, zero, suc, ◌≤◌, ◌<◌, ◌≡◌, refl, ◌⊎◌, List, ◌∷◌}
use Rattle.std.proofs.Common.{arith, inl, inr}
use Rattle.galley.specs.Word.{byte_at}
use Rattle.galley.specs.Write.{Stated, bytes_of}
use Rattle.galley.specs.Alike.{Alike, spec_with}
use Rattle.galley.specs.declared.Spec.{Spec}
use Rattle.galley.specs.declared.Line.{Line}
use Rattle.galley.specs.declared.Float.{Float}

-- Bytes that differ in the four after the first two alone.
four_apart : (a b c d e f c' d' e' f' : ℕ) (rest : List ℕ) → Alike (a ∷ b ∷ c ∷ d ∷ e ∷ f ∷ rest) (a ∷ b ∷ c' ∷ d' ∷ e' ∷ f' ∷ rest)
four_apart a b c d e f c' d' e' f' rest = record { long = refl; same = same }
  where
    neither : (at : ℕ) → (at < 2) ⊎ (6 ≤ at) → 2 ≤ at → at < 6 → ⊥
    neither at (inl h) low high = omega arith
    neither at (inr h) low high = omega arith

    same : (at : ℕ) → (at < 2) ⊎ (6 ≤ at) → byte_at (a ∷ b ∷ c' ∷ d' ∷ e' ∷ f' ∷ rest) at ≡ byte_at (a ∷ b ∷ c ∷ d ∷ e ∷ f ∷ rest) at
    same zero h = refl
    same (suc zero) h = refl
    same (suc (suc zero)) h = absurd (neither 2 h (omega arith) (omega arith))
    same (suc (suc (suc zero))) h = absurd (neither 3 h (omega arith) (omega arith))
    same (suc (suc (suc (suc zero)))) h = absurd (neither 4 h (omega arith) (omega arith))
    same (suc (suc (suc (suc (suc zero))))) h = absurd (neither 5 h (omega arith) (omega arith))
    same (suc (suc (suc (suc (suc (suc at)))))) h = refl

pub written_alike : (s : Spec) (h : ℕ) (o : Stated) (ls : List Line) (fs ts : List Float)
    → Alike (bytes_of s o ls fs ts) (bytes_of (spec_with h s) o ls fs ts)
unfolding bytes_of
written_alike s h o ls fs ts = four_apart _ _ _ _ _ _ _ _ _ _ _
