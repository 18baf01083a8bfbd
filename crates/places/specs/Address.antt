-- Where a place stands in the work area, and how many words a galley needs (document 01, "Making").
use Rattle.std.specs.Prelude.{◌⊎◌, List, ℕ, ◌+◌, ◌*◌, ◌<◌, ◌≤◌, length}
use Rattle.places.specs.declared.Place.{Place}

-- The offset of place (i, j) on a side: columns of `tall` places, ten words a place, five a side (document 01,
-- "Making"; document 02, S-10).
unfoldable pub address : ℕ → ℕ → ℕ → ℕ → ℕ
address tall i j side = (j * tall + i) * 10 + side * 5

-- The words of so many columns of `tall` places (document 01, "Making").
unfoldable pub area : ℕ → ℕ → ℕ
area tall wide = 10 * (tall * wide)

-- The words of the work area of m lines and so many columns: ten to a place (document 02, S-10), of which (m + 1)·(n + 1) are there
-- for n figures (document 01, "Making"), and (m + 1)·(n + 1)·(k + 1) with k tables (document 02, S-4).
unfoldable pub words_needed : ℕ → ℕ → ℕ
words_needed m wide = 10 * ((m + 1) * wide)

-- A place of a galley of at most 4,000 lines and 10,251 columns, and a side (document 01, "Making").
pub record Inside (tall : ℕ) (place : Place) (side : ℕ) : Type 0 where
  pub high : tall ≤ 4001
  pub row : place.line < tall
  pub wide : place.column ≤ 10250
  pub either : side ≤ 1

-- Its five words are within the work area (document 01, "Making").
pub record Stands (w : List ℕ) (tall : ℕ) (place : Place) (side : ℕ) : Type 0 where
  pub inside : Inside tall place side
  pub room : address tall place.line place.column side + 5 ≤ length w

-- A line of at most 4,000 and a column below 201 · 51, for 200 figures and 50 tables (document 01, "Numbers that turn work
-- away", 4; document 02, S-4).
pub record Small (i j : ℕ) : Type 0 where
  pub line : i ≤ 4000
  pub column : j ≤ 10250

-- At most so many lines and columns.
pub record Limited (m wide : ℕ) : Type 0 where
  pub lines : m ≤ 4000
  pub columns : wide ≤ 10251

-- The five words from one offset on and the five from another have none in common (document 01, "Making").
abbrev pub Apart : ℕ → ℕ → Type 0
Apart at at' = (at + 5 ≤ at') ⊎ (at' + 5 ≤ at)
