-- What holds at each turn of the loop over the lines of a text.
use Rattle.std.specs.Prelude.{ℕ, ◌≤◌, ◌<◌, ◌≡◌, List, length}
use Rattle.galley.specs.declared.Stream.{Stream}
use Rattle.galley.specs.Model.{text_of}
use Rattle.window.specs.Sums.{reach, Bare, Row}

-- The sums of the lines before k are those of the text, those of line k lack the space after it, and those with it are in hand.
pub record SumsRun (bytes : List ℕ) (text : Stream) (sums₀ sums : List ℕ) (tight loose k : ℕ) : Type 0 where
  pub within : k ≤ text.count
  pub sized : length sums ≡ length sums₀
  pub tights : tight ≡ reach (text_of bytes text) (text_of bytes text).least k
  pub looses : loose ≡ reach (text_of bytes text) (text_of bytes text).most k
  pub rows : (q : ℕ) → q < k → Row (text_of bytes text) sums q
  pub bare : Bare (text_of bytes text) sums k
