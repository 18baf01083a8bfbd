-- What a call on a lent desk returns and leaves (document 02, S-7).
use Rattle.std.specs.Prelude.{ℕ, List, [], ◌∷◌, ◌≡◌}
use Rattle.desk.specs.declared.Desk.{Desk}
use Rattle.desk.specs.Desk.{Told, Done}
use Rattle.barleychime.specs.Words.{number_of, answer_words}

-- The number of an answer beside the desk.
abbrev pub done_of : Told → Done
done_of told = record { desk = told.desk; number = number_of told.answer }

-- An answer of number and place alone, which is 0, or of a count of pages: the other words are 0.
abbrev pub number_alone : ℕ → List ℕ
number_alone number = number ∷ 0 ∷ 0 ∷ 0 ∷ 0 ∷ 0 ∷ 0 ∷ 0 ∷ 0 ∷ []

abbrev pub pages_alone : ℕ → List ℕ
pages_alone pages = 0 ∷ 0 ∷ pages ∷ 0 ∷ 0 ∷ 0 ∷ 0 ∷ 0 ∷ 0 ∷ []

-- The number returned, the desk afterwards, and the words of the answer.
pub record Left (done : Done) (words : List ℕ) (number : ℕ) (desk : Desk) (answer : List ℕ) : Type 0 where
  pub returned : number ≡ done.number
  pub lent : desk ≡ done.desk
  pub told : answer ≡ words

-- What is left by a call that answers as the marking does,
abbrev pub LeftTold : Told → ℕ → Desk → List ℕ → Type 0
LeftTold told = Left (done_of told) (answer_words told.answer 0)

-- and by one that answers a number alone.
abbrev pub LeftDone : Done → ℕ → Desk → List ℕ → Type 0
LeftDone done = Left done (number_alone done.number)
