-- Reading answers what the bytes say: each refusal, 1 to 8, exactly where its sentence holds, and a galley exactly where the bytes are one.
use Rattle.std.specs.Prelude.{ℕ, ◌≡◌, ◌↔◌, List, Ok}
use Rattle.std.proofs.Common.{subst}
use Rattle.galley.specs.Whole.{galley_of}
use Rattle.galley.specs.declared.Galley.{Galley}
use Rattle.refusals.specs.Declared.{IsGalley}
use Rattle.refusals.proofs.laws.Told.{Says, Told}
use Rattle.refusals.proofs.laws.Exact.{says_exact, galley_exact}
use Rattle.refusals.proofs.laws.Total.{told}
use Rattle.refusals.specs.Theorem.{Declared}
use Rattle.model.specs.Answers.{refused}

refusal_says : (bytes : List ℕ) (number at : ℕ) → (galley_of bytes ≡ refused number at) ↔ Says number bytes at
unfolding Told
refusal_says bytes number at = (λ e. subst (λ r. Told bytes r) e (told bytes), says_exact bytes number at)

galley_says : (bytes : List ℕ) (g : Galley) → (galley_of bytes ≡ Ok g) ↔ IsGalley bytes g
unfolding Told
galley_says bytes g = (λ e. subst (λ r. Told bytes r) e (told bytes), galley_exact bytes g)

-- For any bytes.
pub reading_declared : (bytes : List ℕ) → Declared bytes
reading_declared bytes =
    record {
      one = refusal_says bytes 1;
      two = refusal_says bytes 2;
      three = refusal_says bytes 3;
      four = refusal_says bytes 4;
      five = refusal_says bytes 5;
      six = refusal_says bytes 6;
      seven = refusal_says bytes 7;
      eight = refusal_says bytes 8;
      galley = galley_says bytes;
    }
