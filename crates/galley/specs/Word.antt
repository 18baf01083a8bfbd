-- Bytes, fields and marks: document 01, "The galley file".
use Rattle.std.specs.Prelude.{ℕ, ◌+◌, ◌*◌, List, get_or}

-- The byte at an offset.
abbrev pub byte_at : List ℕ → ℕ → ℕ
byte_at bytes at = get_or bytes at 0

-- A field: four bytes, the most significant first.
unfoldable pub word_at : List ℕ → ℕ → ℕ
word_at bytes at =
    byte_at bytes at * 16777216
    + byte_at bytes (at + 1) * 65536
    + byte_at bytes (at + 2) * 256
    + byte_at bytes (at + 3)

-- A mark: two bytes as one number, the first one more significant.
unfoldable pub mark_at : List ℕ → ℕ → ℕ
mark_at bytes at = byte_at bytes at * 256 + byte_at bytes (at + 1)
