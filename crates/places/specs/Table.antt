-- The work area as a table of entries by place and side (document 01, "Making").
use Rattle.std.specs.Prelude.{ℕ, List}
use Rattle.places.specs.Entry.{Entry, entry_at}
use Rattle.places.specs.Address.{address}

-- The entry of place (i, j) on a side, in columns of `tall` places (document 01, "Making").
unfoldable pub table_of : ℕ → List ℕ → ℕ → ℕ → ℕ → Entry
table_of tall w i j side = entry_at w (address tall i j side)
