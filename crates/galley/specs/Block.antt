-- The blocks of a stream, k from 1: document 01, "The galley file".
use Rattle.std.specs.Prelude.{ℕ, ◌+◌, ◌-◌, ◌*◌, ◌≤◌, List, length}
use Rattle.galley.specs.Word.{word_at}
use Rattle.galley.specs.declared.Stream.{Stream}

-- The offset of block k's mark: records of 18 bytes follow one another.
abbrev pub offset : Stream → ℕ → ℕ
offset stream k = stream.first + (k - 1) * 18

-- The field of block k that stands so many bytes after its mark.
abbrev pub field_of : List ℕ → Stream → ℕ → ℕ → ℕ
field_of bytes stream at k = word_at bytes (offset stream k + at)

-- There is a block k, with a field so many bytes after its mark.
pub record Has (bytes : List ℕ) (stream : Stream) (k at : ℕ) : Type 0 where
  pub within : stream.first + stream.count * 18 ≤ length bytes
  pub low : 1 ≤ k
  pub high : k ≤ stream.count
  pub field : at ≤ 14
