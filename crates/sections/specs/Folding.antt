-- The folding order of stitched sections, by document 02's formulas.
use Rattle.std.specs.Prelude.{ℕ, zero, suc, ◌+◌, ◌-◌, ◌*◌, ◌/◌, List, [], ◌∷◌, ◌++◌, take, drop}

-- The four pages of sheet k, counted from 0 and from the outside, of n pages: front left and right, back left and right
-- (document 02, folding order).
abbrev pub sheet : ℕ → ℕ → List ℕ
sheet n k = (n - 2 * k) ∷ (2 * k + 1) ∷ (2 * k + 2) ∷ (n - 2 * k - 1) ∷ []

-- The pages of m sheets of n pages, from sheet k on (document 02, folding order).
unfoldable pub sheets_from : ℕ → ℕ → ℕ → List ℕ
sheets_from n k zero = []
sheets_from n k (suc m) = sheet n k ++ sheets_from n (suc k) m

-- The section of n pages, sheet by sheet (document 02, folding order).
unfoldable pub section : ℕ → List ℕ
section n = sheets_from n 0 (n / 4)

-- m sections, the first of n pages and each of four more than the one before (document 02, folding order).
unfoldable pub sections_from : ℕ → ℕ → List ℕ
sections_from n zero = []
sections_from n (suc m) = section n ++ sections_from (n + 4) m

-- The sections of 4, 8, …, 64 pages (document 02, folding order).
unfoldable pub all_sections : List ℕ
all_sections = sections_from 4 16

-- How many numbers of a table stand before the section of n pages: 4 + 8 + … + (n - 4) (document 02, the order of the table).
abbrev pub start_of : ℕ → ℕ
start_of n = 2 * (n / 4) * (n / 4 - 1)

-- The section of n pages as it stands in a table (document 02, the order of the table).
unfoldable pub part_of : List ℕ → ℕ → List ℕ
part_of table n = take n (drop (start_of n) table)
