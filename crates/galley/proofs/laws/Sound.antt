-- A galley that reads without refusal is sound, and any other is refused with a number from 1 to 8.
use Rattle.std.specs.Prelude.{ℕ, zero, suc, ◌≤◌, List, ◌≡◌, length, Ok}
use Rattle.std.proofs.Common.{arith}
use Rattle.galley.specs.Whole.{beginning, settled, read_from, galley_of, Reading, Step}
use Rattle.galley.specs.Sound.{Opening, Sound}
use Rattle.galley.proofs.laws.Reached.{Reached, reached_none}
use Rattle.galley.proofs.laws.Step.{Right, Fine, step_fine}
use Rattle.galley.specs.declared.Galley.{Galley}
use Rattle.galley.specs.declared.Sofar.{Sofar}
use Rattle.model.specs.Answers.{refused}
use Rattle.std.specs.declared.ops.ControlFlow.TheVariants.{Break, Continue}

settled_right : (bytes : List ℕ) (so : Sofar) (on : Sofar → Reading) → ((next : Sofar) → Reached bytes next → Right bytes (on next))
    → (step : Step) → Fine bytes so step → Right bytes (settled on step)
unfolding settled Fine
settled_right bytes so on right (Continue next) fine = right next fine.1
settled_right bytes so on right (Break reading) fine = fine

read_right : (bytes : List ℕ) (most : ℕ) (so : Sofar) → Reached bytes so → Right bytes (read_from bytes most so)
unfolding read_from Right
read_right bytes zero so r = (omega arith, omega arith)
read_right bytes (suc most) so r =
    settled_right bytes so (read_from bytes most) (read_right bytes most) _ (step_fine bytes so r)

galley_right : (bytes : List ℕ) → Right bytes (galley_of bytes)
unfolding galley_of
galley_right bytes = read_right bytes (suc (length bytes)) beginning (reached_none bytes)

-- A galley that reads without refusal is sound.
pub sound : (bytes : List ℕ) (g : Galley) → galley_of bytes ≡ Ok g → Sound bytes g
unfolding Right
sound bytes g h = (rw h at (galley_right bytes)).0

-- Its first folio stands in an `FO`, or is 1.
pub opening : (bytes : List ℕ) (g : Galley) → galley_of bytes ≡ Ok g → Opening bytes g
unfolding Right
opening bytes g h = (rw h at (galley_right bytes)).1

-- A galley that is refused is refused with a number from 1 to 8.
pub refusal_number : (bytes : List ℕ) (number place : ℕ) → galley_of bytes ≡ refused number place → (1 ≤ number) × (number ≤ 8)
unfolding Right
refusal_number bytes number place h = rw h at (galley_right bytes)
