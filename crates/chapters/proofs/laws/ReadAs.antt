-- What a chapter that was read, or turned away, says of what its bytes hold.
use Rattle.std.specs.Prelude.{ℕ, ◌≡◌, refl, Ok, Err}
use Rattle.std.proofs.Common.{arith, ap}
use Rattle.model.specs.declared.answer.Refusal.{Refusal}
use Rattle.galley.specs.declared.Galley.{Galley}
use Rattle.galley.specs.Whole.{Reading}
use Rattle.chapters.specs.Steps.{read_as}

-- It was read: they hold its galley.
pub read_ok : (k : ℕ) (o : Reading) (g : Galley) → read_as k o ≡ Ok g → o ≡ Ok g
read_ok k (Ok h) g e = e
read_ok k (Err r) g e = let z : ◌≡◌ {A = ℕ} 0 1 = cc in absurd (omega arith)

-- It was turned away: they are refused, with the same number.
pub read_err : (k : ℕ) (o : Reading) (r : Refusal) → read_as k o ≡ Err r
    → (n : Refusal) × (o ≡ Err n) × (record { number = n.number; place = k } ≡ r)
read_err k (Ok h) r e = let z : ◌≡◌ {A = ℕ} 0 1 = cc in absurd (omega arith)
read_err k (Err n) r e = (n, refl, ap refusal_in e)
  where
    refusal_in : Reading → Refusal
    refusal_in (Ok g) = r
    refusal_in (Err n) = n
