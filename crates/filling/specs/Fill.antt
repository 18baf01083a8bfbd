-- The work area filled, column by column, as the loops go, for any number of float streams and any origin.
use Rattle.std.specs.Prelude.{ℕ, zero, suc}
use Rattle.model.specs.Galley.{Galley}
use Rattle.places.specs.declared.Origin.{Origin}
use Rattle.places.specs.Entry.{cleared}
use Rattle.places.specs.Columns.{columns, float_sizes}
use Rattle.entries.specs.Fill.{Words, fill_place, table_words}

-- The k places of column q from line i on.
unfoldable pub fill_column : Galley → Origin → ℕ → ℕ → ℕ → Words → Words
fill_column g from q zero i w = w
fill_column g from q (suc k) i w = fill_column g from q k (suc i) (fill_place g from i q w)

-- The k columns from column q on.
unfoldable pub fill_columns : Galley → Origin → ℕ → ℕ → Words → Words
fill_columns g from zero q w = w
fill_columns g from (suc k) q w = fill_columns g from k (suc q) (fill_column g from q (suc (g.stream 0).size) 0 w)

-- The whole table, in words that are cleared first.
unfoldable pub filled : Galley → Origin → Words → Words
filled g from w = fill_columns g from (columns (float_sizes g)) 0 (cleared (table_words g) w)
