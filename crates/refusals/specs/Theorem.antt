-- Reading answers what the bytes say: each refusal, 1 to 8, exactly where its sentence holds, and a galley exactly where the bytes are one.
use Rattle.std.specs.Prelude.{ℕ, ◌≡◌, ◌↔◌, List, Ok}
use Rattle.galley.specs.Whole.{galley_of}
use Rattle.galley.specs.declared.Galley.{Galley}
use Rattle.refusals.specs.Declared.{StopsShort, UnknownMark, BadField, TooMany, BeforeFirstLine, NoSuchLine, OutOfOrder, AfterEnd, IsGalley}
use Rattle.model.specs.Answers.{refused}

-- What the answers of reading are about. No other number is answered: see `refusal_number`.
pub record Declared (bytes : List ℕ) : Type 0 where
  pub one : (at : ℕ) → (galley_of bytes ≡ refused 1 at) ↔ StopsShort bytes at
  pub two : (at : ℕ) → (galley_of bytes ≡ refused 2 at) ↔ UnknownMark bytes at
  pub three : (at : ℕ) → (galley_of bytes ≡ refused 3 at) ↔ BadField bytes at
  pub four : (at : ℕ) → (galley_of bytes ≡ refused 4 at) ↔ TooMany bytes at
  pub five : (at : ℕ) → (galley_of bytes ≡ refused 5 at) ↔ BeforeFirstLine bytes at
  pub six : (at : ℕ) → (galley_of bytes ≡ refused 6 at) ↔ NoSuchLine bytes at
  pub seven : (at : ℕ) → (galley_of bytes ≡ refused 7 at) ↔ OutOfOrder bytes at
  pub eight : (at : ℕ) → (galley_of bytes ≡ refused 8 at) ↔ AfterEnd bytes at
  pub galley : (g : Galley) → (galley_of bytes ≡ Ok g) ↔ IsGalley bytes g
