-- The answer to a request for a section, and the lent words afterwards (document 02, folding order).
use Rattle.std.specs.Prelude.{ℕ, ◌%◌, ◌≤◌, ◌≡◌, Bool, ◌&&◌, List, ◌++◌, leb, eqb, drop, Result, Ok}
use Rattle.model.specs.Gather.{pick}
use Rattle.model.specs.declared.answer.Refusal.{Refusal}
use Rattle.model.specs.Answers.{refused}
use Rattle.sections.specs.Folding.{section}

-- There are sections of n pages: n is a multiple of 4, from 4 to 64 (document 02, folding order).
abbrev pub is_size : ℕ → Bool
is_size n = leb 4 n && leb n 64 && eqb (n % 4) 0

-- The same, as three facts.
pub record Size (n : ℕ) : Type 0 where
  pub least : 4 ≤ n
  pub most : n ≤ 64
  pub fours : n % 4 ≡ 0

-- Nothing is refused, or 33 with the size (document 02, number 33).
unfoldable pub answer_of : ℕ → Result (Unit {0}) Refusal
answer_of n = pick (is_size n) (Ok tt) (refused 33 n)

-- The lent words: the section's numbers and after them the words that stood there, or all words as they were (document 02,
-- folding order; document 01 has every refusal leave lent memory as it was).
unfoldable pub numbers_after : ℕ → List ℕ → List ℕ
numbers_after n words = pick (is_size n) (section n ++ drop n words) words

-- A request answered: the answer, and every lent word.
pub record Answered (n : ℕ) (words : List ℕ) (answer : Result (Unit {0}) Refusal) (words' : List ℕ) : Type 0 where
  pub answered : answer ≡ answer_of n
  pub written : words' ≡ numbers_after n words
