-- What a galley that was read and its work area give to a search.
use Rattle.std.specs.Prelude.{ℕ, ◌+◌, ◌*◌, ◌/◌, ◌%◌, ◌≤◌, ◌<◌, Bool, ◌&&◌, List, eqb}
use Rattle.galley.specs.declared.Galley.{Galley}
use Rattle.galley.specs.Model.{model_of, sides_in}
use Rattle.galley.specs.Sound.{Sound}
use Rattle.blocks.specs.declared.Counts.{Counts}
use Rattle.blocks.specs.declared.heights.Heights.{Heights}
use Rattle.places.specs.Table.{table_of}
use Rattle.window.specs.declared.slide.Load.{Load}
use Rattle.candidates.specs.Search.{Table, before, Search}

-- The table that the work area of a galley holds: one row more than there are lines.
abbrev pub table_in : Galley → List ℕ → Table
table_in g w = table_of (g.text.count + 1) w

-- The side of the page before one on side c.
abbrev pub side_of : Galley → ℕ → ℕ
side_of g c = before (sides_in g) c

-- The search for a page of the galley that ends at line i and column j, in the table that the work area holds.
abbrev pub search_of : List ℕ → Galley → List ℕ → ℕ → ℕ → ℕ → Search
search_of bytes g w i j side =
    record { galley = model_of bytes g; table = table_in g w; line = i; column = j; side = side }

-- How many columns there are: one for each number of figures and of tables placed so far (document 02, S-4).
unfoldable pub columns_in : Galley → ℕ
columns_in g = (g.figures.count + 1) * (g.tables.count + 1)

-- What is placed at a line and a column: columns go by figures, then by tables.
abbrev pub counts_at : Galley → ℕ → ℕ → Counts
counts_at g line column =
    record { lines = line; figures = column / (g.tables.count + 1); tables = column % (g.tables.count + 1) }

-- The first column of those with so many figures.
unfoldable pub row_of : Galley → ℕ → ℕ
row_of g figures = figures * (g.tables.count + 1)

-- At most 200 figures and 50 tables (document 01, "Numbers that turn work away", 4; document 02, S-4).
pub record FewFloats (g : Galley) : Type 0 where
  pub figures : g.figures.count ≤ 200
  pub tables : g.tables.count ≤ 50

-- The column is the last.
abbrev pub last_column : Galley → ℕ → Bool
last_column g column = eqb (column + 1) (columns_in g)

-- The place of line i and column j is the full one.
abbrev pub last_place : Galley → ℕ → ℕ → Bool
last_place g i j = eqb i g.text.count && last_column g j

-- What a page of lines and these floats has beside its lines, with so many separations, the heights that it must keep to, and the first
-- line that it may start from.
abbrev pub load_of : Galley → ℕ → Heights → ℕ → ℕ → Load
load_of g separations floats least first =
    record {
      tight = floats.tight + separations * g.spec.smin;
      loose = floats.loose + separations * g.spec.smax;
      htmin = least;
      htmax = g.spec.htmax;
      first = first;
    }

-- (i, j) is a place of a galley that was read, by line and column.
pub record Placed (bytes : List ℕ) (g : Galley) (i j : ℕ) : Type 0 where
  pub sound : Sound bytes g
  pub line : i ≤ g.text.count
  pub column : j < columns_in g
