-- Float places by number, for any number of float streams: mixed radix, the last stream fastest. A float place is a list of
-- counts, one for each float stream; a column is its number. A place is a line before a float place (document 01, "Making").
use Rattle.std.specs.Prelude.{ℕ, suc, ◌+◌, ◌*◌, ◌/◌, ◌%◌, List, [], ◌∷◌}
use Rattle.model.specs.Gather.{row}
use Rattle.model.specs.Galley.{Galley, Place}

-- How many float places there are, for float streams of these sizes: n + 1 for n figures.
unfoldable pub columns : List ℕ → ℕ
columns [] = 1
columns (n ∷ ns) = suc n * columns ns

-- The number of a float place.
unfoldable pub column_of : List ℕ → List ℕ → ℕ
column_of [] js = 0
column_of (n ∷ ns) [] = 0
column_of (n ∷ ns) (j ∷ js) = j * columns ns + column_of ns js

-- The float place of a number.
unfoldable pub floats_at : List ℕ → ℕ → List ℕ
floats_at [] c = []
floats_at (n ∷ ns) c = c / columns ns ∷ floats_at ns (c % columns ns)

-- The sizes of a galley's float streams.
unfoldable pub float_sizes : Galley → List ℕ
float_sizes g = row 1 g.floats (λ s. (g.stream s).size)

-- The counts of floats in a place.
unfoldable pub float_place : Place → List ℕ
float_place [] = []
float_place (i ∷ js) = js

-- The place of a line and a column of a galley.
unfoldable pub place_at : Galley → ℕ → ℕ → Place
place_at g i c = i ∷ floats_at (float_sizes g) c

-- The column of a place of a galley.
unfoldable pub column_in : Galley → Place → ℕ
column_in g v = column_of (float_sizes g) (float_place v)
