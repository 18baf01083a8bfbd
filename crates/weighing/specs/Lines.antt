-- The pairs of lines that a page with so much beside its lines may have before and after them.
use Rattle.std.specs.Prelude.{ℕ, ◌+◌, ◌-◌, ◌*◌, ◌≤◌, ◌<◌, ◌≡◌, Bool, ◌&&◌, List, length, ltb, leb}
use Rattle.model.specs.Gather.{one, total}
use Rattle.model.specs.Galley.{Stream}
use Rattle.model.specs.Height.{stacked}
use Rattle.model.specs.laws.Boxes.{below}
use Rattle.window.specs.Slide.{Reaches}
use Rattle.window.specs.Sums.{spaced_at, bare_at, SmallPair, Sums}
use Rattle.weighing.specs.declared.lines.Tally.{Tally}

-- Lines a + 1 to i are some, and with so much beside them at most `limit` high at their tightest.
abbrev pub lines_fit : Stream → ℕ → ℕ → ℕ → ℕ → Bool
lines_fit st beside limit i a = ltb a i && leb (stacked st st.least a i + beside) limit

-- The lines a from `first` on of which that is so, for a last line i.
abbrev pub pairs_to : Stream → ℕ → ℕ → ℕ → ℕ → ℕ → ℕ
pairs_to st first beside limit m i = total m (λ a. one (leb first a && lines_fit st beside limit i a))

-- All such pairs of m lines.
unfoldable pub line_pairs : Stream → ℕ → ℕ → ℕ → ℕ → ℕ
line_pairs st first beside limit m = total m (pairs_to st first beside limit m)

-- Sums of so many lines, and heights that can be added in a word.
pub record Pairable (sums : List ℕ) (lines first beside limit : ℕ) : Type 0 where
  pub few : lines ≤ 4000
  pub from : first ≤ lines
  pub room : 3 * lines + 6 ≤ length sums
  pub small : (k : ℕ) → k ≤ lines → SmallPair sums 0 k
  pub added : beside ≤ 1000000000
  pub limited : limit ≤ 1000000000

-- So many are the pairs beside so much, and they are not too many for a word.
pub record Pairs (sums : List ℕ) (m first beside limit pairs : ℕ) : Type 0 where
  pub few : pairs ≤ 16004000
  pub counted : (st : Stream) → Sums st m sums → pairs ≡ line_pairs st first beside limit m

-- As many as the tally says are the pairs beside all that it covers, from its `from` on and before its `end`.
pub record Same (sums : List ℕ) (m first limit : ℕ) (tally : Tally) : Type 0 where
  pub few : tally.pairs ≤ 16004000
  pub counted : (b : ℕ) → tally.from ≤ b → b < tally.end → (st : Stream) → Sums st m sums → tally.pairs ≡ line_pairs st first b limit m

-- The least beside the lines of a page from line a to line i that makes it higher than `limit`, by the sums.
abbrev pub too_much : List ℕ → ℕ → ℕ → ℕ → ℕ
too_much sums limit a i = (limit + 1 + spaced_at sums 0 a) - bare_at sums 0 i

-- That can be told.
pub record Comparable (sums : List ℕ) (limit a i : ℕ) : Type 0 where
  pub start : 3 * a + 6 ≤ length sums
  pub end : 3 * i + 6 ≤ length sums
  pub first : spaced_at sums 0 a ≤ 1000000000
  pub last : bare_at sums 0 i ≤ 1000000000
  pub limited : limit ≤ 1000000000

-- So it can for every line up to i, `low` among them.
pub record Compared (sums : List ℕ) (limit low i : ℕ) : Type 0 where
  pub few : i ≤ 4000
  pub within : low ≤ i
  pub room : 3 * i + 6 ≤ length sums
  pub small : (k : ℕ) → k ≤ i → SmallPair sums 0 k
  pub limited : limit ≤ 1000000000

-- The pairs of line i are added, and whatever the new tally leaves to stand beside the lines, a page from line `low` to line i is not too
-- high with it, if that has a line, and one from the line before, if that is one to start from, is.
pub record WithLine (sums : List ℕ) (tally : Tally) (first limit low i : ℕ) (r : Tally) : Type 0 where
  pub pairs : r.pairs ≡ tally.pairs + (i - low)
  pub from : tally.from ≤ r.from
  pub end : r.end ≤ tally.end
  pub goes : (b : ℕ) → r.from ≤ b → b < r.end → low < i → b < too_much sums limit low i
  pub tall : (b : ℕ) → r.from ≤ b → b < r.end → first < low → too_much sums limit (low - 1) i ≤ b

-- The pairs that end before line i are counted, and whatever starts before `low`, from line `first` on, is too tall from line i on.
pub record Counted (st : Stream) (first beside limit m low i pairs : ℕ) : Type 0 where
  pub counted : pairs ≡ below i (pairs_to st first beside limit m)
  pub passed : (a e : ℕ) → first ≤ a → a < low → i ≤ e → Reaches st st.least beside (limit + 1) a e

-- So it is for every stream of these sums.
pub record Counting (sums : List ℕ) (first beside limit m low i pairs : ℕ) : Type 0 where
  pub within : i ≤ m + 1
  pub from : first ≤ low
  pub start : low ≤ i
  pub few : pairs ≤ i * 4000
  pub each : (st : Stream) → Sums st m sums → Counted st first beside limit m low i pairs

-- The pairs that end before line i are counted, for what stands beside the lines and for all else that the tally says.
pub record Tallied (sums : List ℕ) (first beside limit m low i : ℕ) (tally : Tally) : Type 0 where
  pub counting : Counting sums first beside limit m low i tally.pairs
  pub same : (b : ℕ) → tally.from ≤ b → b < tally.end → (st : Stream) → Sums st m sums
      → Counted st first b limit m low i tally.pairs
