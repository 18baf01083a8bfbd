-- A section's answer as two words: number and place (document 02, folding order).
use Rattle.std.specs.Prelude.{ℕ, ◌≡◌, List, [], ◌∷◌, Result, Ok, Err}
use Rattle.model.specs.declared.answer.Refusal.{Refusal}
use Rattle.desk.specs.Desk.{number_in}
use Rattle.sections.specs.Answer.{answer_of, numbers_after}

abbrev pub two_of : Result (Unit {0}) Refusal → List ℕ
two_of (Ok it) = 0 ∷ 0 ∷ []
two_of (Err r) = r.number ∷ r.place ∷ []

-- What a call for a section returns and leaves: the answer's number and its two words, and every word that is lent for numbers.
pub record Folded (size : ℕ) (numbers : List ℕ) (number : ℕ) (numbers' two : List ℕ) : Type 0 where
  pub returned : number ≡ number_in (answer_of size)
  pub told : two ≡ two_of (answer_of size)
  pub written : numbers' ≡ numbers_after size numbers
