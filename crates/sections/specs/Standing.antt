-- How pages stand in a section, and tests of every section of a table (document 02, folding order).
use Rattle.std.specs.Prelude.{ℕ, ◌+◌, ◌-◌, ◌*◌, ◌/◌, Bool, ◌&&◌, List, eqb, length, get_or}
use Rattle.model.specs.Gather.{each, every, times}
use Rattle.model.specs.Answers.{same}
use Rattle.sections.specs.Folding.{section, part_of}

-- The pages on the left and on the right of a side (document 02: left then right). Sides are counted from 0, sheet by sheet.
abbrev pub left_of : List ℕ → ℕ → ℕ
left_of pages side = get_or pages (2 * side) 0

abbrev pub right_of : List ℕ → ℕ → ℕ
right_of pages side = get_or pages (2 * side + 1) 0

-- The section of n pages in a table is what the formulas give (document 02, folding order).
unfoldable pub folds : List ℕ → ℕ → Bool
folds table n = same (part_of table n) (section n)

-- It has n numbers, and each page from 1 to n stands there exactly once (document 02, folding order).
unfoldable pub has_pages : List ℕ → ℕ → Bool
has_pages table n = eqb (length (part_of table n)) n && each n (λ p. eqb (times p (part_of table n)) 1)

-- Left and right of each of its sides add up to n + 1 (document 02, folding order).
unfoldable pub adds_up : List ℕ → ℕ → Bool
adds_up table n = every (n / 2 - 1) (λ side. eqb (left_of (part_of table n) side + right_of (part_of table n) side) (n + 1))

-- A test holds at 4, 8, …, 64 pages (document 02, folding order).
abbrev pub every_size : (ℕ → Bool) → Bool
every_size test = each 16 (λ q. test (4 * q))
