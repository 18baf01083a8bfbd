-- Sums of the heights of lines from the first on.
use Rattle.std.specs.Prelude.{ℕ, ◌+◌, ◌*◌, ◌≤◌, ◌≡◌, List, length, get_or}
use Rattle.model.specs.Gather.{sum}
use Rattle.model.specs.Galley.{Stream}
use Rattle.model.specs.Height.{stacked}
use Rattle.galley.specs.declared.Stream as galley
use Rattle.galley.specs.Sound.{SoundStream}

-- The height of blocks 1 to k with the space after each of them, the last among them.
unfoldable pub reach : Stream → (ℕ → ℕ) → ℕ → ℕ
reach st gap k = sum k st.ht + sum k gap

-- Row k is three words: how far the lines before line k reach with the space after each of them, at the least spaces and at the greatest,
-- and the height of line k. So the lines up to k reach, with the space after line k, to where row k + 1 begins,
abbrev pub spaced_at : List ℕ → ℕ → ℕ → ℕ
spaced_at sums space k = get_or sums (3 * k + 3 + space) 0

-- and without it as far as row k says with its height.
abbrev pub bare_at : List ℕ → ℕ → ℕ → ℕ
bare_at sums space k = get_or sums (3 * k + space) 0 + get_or sums (3 * k + 2) 0

-- Without the space after line k, both are those of the stream.
pub record Bare (st : Stream) (sums : List ℕ) (k : ℕ) : Type 0 where
  pub tight : bare_at sums 0 k ≡ stacked st st.least 0 k
  pub loose : bare_at sums 1 k ≡ stacked st st.most 0 k

-- The sums of line k at these spaces, the first or the second of a row, are those of the stream: with the space after the line, and
-- without it.
pub record Pair (st : Stream) (gap : ℕ → ℕ) (sums : List ℕ) (space k : ℕ) : Type 0 where
  pub spaced : spaced_at sums space k ≡ reach st gap k
  pub bare : bare_at sums space k ≡ stacked st gap 0 k

-- Both are small enough for others to be added to them in a word.
abbrev pub SmallPair : List ℕ → ℕ → ℕ → Type 0
SmallPair sums space k = (spaced_at sums space k ≤ 1000000000) × (bare_at sums space k ≤ 1000000000)

-- All sums of line k are those of the stream.
pub record Row (st : Stream) (sums : List ℕ) (k : ℕ) : Type 0 where
  pub tight : Pair st st.least sums 0 k
  pub loose : Pair st st.most sums 1 k

-- So are those of every line up to m.
abbrev pub Sums : Stream → ℕ → List ℕ → Type 0
Sums st m sums = (k : ℕ) → k ≤ m → Row st sums k

-- A text that was read, and room for the sums of all its lines.
pub record SumsRoom (bytes : List ℕ) (text : galley.Stream) (sums : List ℕ) : Type 0 where
  pub sound : SoundStream bytes text
  pub few : text.count ≤ 4000
  pub room : 3 * text.count + 6 ≤ length sums
