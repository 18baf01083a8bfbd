-- An answer as words: the six of document 01 in its order, number, place, p, X, Y, T; the count of what is weighed, its low word and its
-- high word (document 02, S-5); and W (document 02, S-10).
use Rattle.std.specs.Prelude.{ℕ, ◌/◌, ◌%◌, List, [], ◌∷◌}
use Rattle.model.specs.declared.answer.Numbers.{Numbers}
use Rattle.model.specs.Answers.{numbers_of, Answer}

-- The low and the high word of a number of 64 bits.
abbrev pub low : ℕ → ℕ
low n = n % 4294967296

abbrev pub high : ℕ → ℕ
high n = n / 4294967296

abbrev pub words_of_numbers : Numbers → ℕ → List ℕ
words_of_numbers n weighed =
    n.number ∷ n.place ∷ n.pages ∷ n.x ∷ n.y ∷ n.turns ∷ low weighed ∷ high weighed ∷ n.white ∷ []

abbrev pub answer_words : Answer → ℕ → List ℕ
answer_words answer weighed = words_of_numbers (numbers_of answer) weighed

-- The number of an answer: 0 for a success.
abbrev pub number_of : Answer → ℕ
number_of answer = (numbers_of answer).number
