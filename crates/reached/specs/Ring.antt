-- The ring of the columns that were found to be reached: what its words say.
use Rattle.std.specs.Prelude.{ℕ, ◌+◌, ◌*◌, ◌/◌, ◌%◌, ◌≤◌, ◌<◌, ◌≡◌, ◌⊎◌, Option, Some, None, List, length, get_or}

-- The word of column j, whose first and last reached lines are these: its number and one, then both lines in eights, the last rounded up.
abbrev pub hint_of : ℕ → ℕ → ℕ → ℕ
hint_of j first last = (j + 1) * 262144 + first / 8 * 512 + (last + 7) / 8

-- One more than the number of the column that a word names. The word 0 names none.
abbrev pub hint_name : ℕ → ℕ
hint_name x = x / 262144

-- The line that its first reached one is not before,
abbrev pub hint_first : ℕ → ℕ
hint_first x = x / 512 % 512 * 8

-- and the line that its last is not after.
abbrev pub hint_last : ℕ → ℕ
hint_last x = x % 512 * 8

-- x is a word of `seen` that names column j.
pub record Present (seen : List ℕ) (j x : ℕ) : Type 0 where
  pub at : ℕ
  pub inside : at < length seen
  pub word : get_or seen at 0 ≡ x
  pub names : hint_name x ≡ j + 1

-- None does.
abbrev pub Absent : List ℕ → ℕ → Type 0
Absent seen j = (x : ℕ) → Present seen j x → ⊥

-- Such a word, or none where there is none.
abbrev pub HintIn : List ℕ → ℕ → Option ℕ → Type 0
HintIn seen j None = Absent seen j
HintIn seen j (Some x) = Present seen j x

-- A word that names no column, and leaves every line to look at: from the first to the last that can be written.
abbrev pub every_line : ℕ
every_line = 511

-- That, or what the ring has for a column that it covers.
abbrev pub HintFor : List ℕ → ℕ → ℕ → Option ℕ → Type 0
HintFor seen since j None = (since ≤ j) × Absent seen j
HintFor seen since j (Some x) = (x ≡ every_line) ⊎ ((since ≤ j) × Present seen j x)

-- Every column that is named comes before j.
abbrev pub Named : List ℕ → ℕ → Type 0
Named seen j = (b x : ℕ) → Present seen b x → b < j
