-- A forecast as six words: number, place, words of work, words of list, and the ceiling's low and high word (document 02, S-5).
use Rattle.std.specs.Prelude.{ℕ, ◌/◌, ◌%◌, List, [], ◌∷◌, Result, Ok, Err}
use Rattle.model.specs.declared.answer.Refusal.{Refusal}
use Rattle.forecast.specs.declared.Forecast.{Forecast}

abbrev pub words_of : Result Forecast Refusal → List ℕ
words_of (Ok f) = 0 ∷ 0 ∷ f.work ∷ f.list ∷ f.ceiling % 4294967296 ∷ f.ceiling / 4294967296 ∷ []
words_of (Err r) = r.number ∷ r.place ∷ 0 ∷ 0 ∷ 0 ∷ 0 ∷ []

-- Its number: 0 where it is no refusal.
abbrev pub number_of : Result Forecast Refusal → ℕ
number_of (Ok f) = 0
number_of (Err r) = r.number
