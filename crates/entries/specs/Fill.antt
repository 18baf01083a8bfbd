-- A place of the work area filled, side by side, for any number of float streams and any origin.
use Rattle.std.specs.Prelude.{ℕ, zero, suc, ◌+◌, List}
use Rattle.model.specs.Galley.{Sides, single, double, Galley}
use Rattle.places.specs.declared.Origin.{Origin}
use Rattle.places.specs.Entry.{stored}
use Rattle.places.specs.Address.{address, area}
use Rattle.places.specs.Table.{table_of}
use Rattle.places.specs.Columns.{columns, float_sizes}
use Rattle.candidates.specs.Search.{Table, new_entry}

-- The words of the work area.
abbrev pub Words : Type 0
Words = List ℕ

-- The rows of the table: one more than there are lines.
unfoldable pub tall : Galley → ℕ
tall g = (g.stream 0).size + 1

-- The table that the words hold.
abbrev pub held : Galley → Words → Table
held g w = table_of (tall g) w

-- The entry of line i and column q on side c put where it belongs.
unfoldable pub fill_side : Galley → Origin → ℕ → ℕ → ℕ → Words → Words
fill_side g from i q c w = stored w (address (tall g) i q c) (new_entry g from (held g w) i q c)

-- The first c sides of a place.
unfoldable pub fill_sides : Galley → Origin → ℕ → ℕ → ℕ → Words → Words
fill_sides g from i q zero w = w
fill_sides g from i q (suc c) w = fill_side g from i q c (fill_sides g from i q c w)

-- How many sides occur.
unfoldable pub side_count : Sides → ℕ
side_count single = 1
side_count (double f) = 2

-- The sides of a place that occur.
unfoldable pub fill_place : Galley → Origin → ℕ → ℕ → Words → Words
fill_place g from i q w = fill_sides g from i q (side_count g.spec.sides) w

-- The words of all places.
abbrev pub table_words : Galley → ℕ
table_words g = area (tall g) (columns (float_sizes g))
