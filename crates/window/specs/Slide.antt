-- The window of starting lines: the lines a from which a page to line i is neither too tall nor too short. With its floats
-- fixed, a page grows with i and shrinks as a rises, so that no end of the window falls.
use Rattle.std.specs.Prelude.{ℕ, suc, ◌+◌, ◌-◌, ◌*◌, ◌≤◌, ◌<◌, Bool, List, length, ltb}
use Rattle.model.specs.Galley.{Stream}
use Rattle.model.specs.Height.{stacked}
use Rattle.window.specs.declared.slide.Load.{Load}
use Rattle.window.specs.declared.slide.Window.{Window}
use Rattle.window.specs.First.{First}
use Rattle.window.specs.Sums.{spaced_at, bare_at, SmallPair, Sums}

-- How far a page to line i reaches from the first line on, with so much beside its lines.
abbrev pub reached_of : List ℕ → ℕ → ℕ → ℕ → ℕ
reached_of sums space beside i = bare_at sums space i + beside

-- A page from line a to line i is too tall.
abbrev pub too_tall : List ℕ → Load → ℕ → ℕ → Bool
too_tall sums load a i = ltb (load.htmax + spaced_at sums 0 a) (reached_of sums 0 load.tight i)

-- That can be read, and fits a word.
pub record Readable (sums : List ℕ) (space beside i : ℕ) : Type 0 where
  pub either : space ≤ 1
  pub room : 3 * i + 3 ≤ length sums
  pub small : bare_at sums space i ≤ 1000000000
  pub added : beside ≤ 1000000000

-- The sums up to line i, what a page has beside its lines and its limit are small enough to be added in a word.
pub record Reachable (sums : List ℕ) (space beside limit from i : ℕ) : Type 0 where
  pub start : from ≤ i
  pub either : space ≤ 1
  pub room : 3 * i + 6 ≤ length sums
  pub small : (k : ℕ) → k ≤ i → SmallPair sums space k
  pub added : beside ≤ 1000000000
  pub limited : limit ≤ 1000000001

-- The same for the ends of a window.
pub record Slidable (sums : List ℕ) (load : Load) (window : Window) (i : ℕ) : Type 0 where
  pub low : Reachable sums 0 load.tight (load.htmax + 1) window.low i
  pub split : Reachable sums 1 load.loose load.htmax window.split i
  pub high : Reachable sums 1 load.loose load.htmin window.high i

-- r is the first line from `from` on whose page to line i stays below the limit, or i.
abbrev pub FirstBelow : List ℕ → ℕ → ℕ → ℕ → ℕ → ℕ → ℕ → Type 0
FirstBelow sums space beside limit from i r =
    First (λ a. limit + spaced_at sums space a) (suc (reached_of sums space beside i)) from i r

-- A page of lines a + 1 to i, a before i, with these spaces and so much beside reaches the limit.
abbrev pub Reaches : Stream → (ℕ → ℕ) → ℕ → ℕ → ℕ → ℕ → Type 0
Reaches st gap beside limit a i = limit ≤ stacked st gap a i + beside

-- Such a page is too tall: it passes htMax even at its tightest.
abbrev pub Tall : Stream → Load → ℕ → ℕ → Type 0
Tall st load a i = Reaches st st.least load.tight (load.htmax + 1) a i

-- Such a page is full: it reaches htMax at its loosest, and has no white (document 02, S-10).
abbrev pub Full : Stream → Load → ℕ → ℕ → Type 0
Full st load a i = Reaches st st.most load.loose load.htmax a i

-- What such a page lacks of htMax at its loosest: its white (document 02, S-10).
abbrev pub white_of : Stream → Load → ℕ → ℕ → ℕ
white_of st load i a = load.htmax - (stacked st st.most a i + load.loose)

-- Such a page is full enough.
abbrev pub Enough : Stream → Load → ℕ → ℕ → Type 0
Enough st load a i = Reaches st st.most load.loose load.htmin a i

-- The window of no line, at the first that a page may start from.
abbrev pub shut_at : Load → Window
shut_at load = record { low = load.first; split = load.first; high = load.first }

-- No end of the window is before the first line that a page may start from.
pub record Since (load : Load) (window : Window) : Type 0 where
  pub low : load.first ≤ window.low
  pub split : load.first ≤ window.split
  pub high : load.first ≤ window.high

-- No end of the window falls.
pub record Rises (from to : Window) : Type 0 where
  pub low : from.low ≤ to.low
  pub split : from.split ≤ to.split
  pub high : from.high ≤ to.high

-- Of the lines from the first on that a page may start from, whatever starts before `low` is too tall by line i and stays so, whatever
-- starts before `split` is full, and whatever starts before `high` is full enough.
pub record Ends (st : Stream) (load : Load) (window : Window) (i : ℕ) : Type 0 where
  pub low : window.low ≤ i
  pub split : window.split ≤ i
  pub high : window.high ≤ i
  pub since : Since load window
  pub passed : (a e : ℕ) → load.first ≤ a → a < window.low → i ≤ e → Tall st load a e
  pub whole : (a e : ℕ) → load.first ≤ a → a < window.split → i ≤ e → Full st load a e
  pub filled : (a e : ℕ) → load.first ≤ a → a < window.high → i ≤ e → Enough st load a e

-- The window is that of line i: from `low` on pages are not too tall, from `split` on they are not full, and from `high` on they are
-- not full enough.
pub record Open (st : Stream) (load : Load) (window : Window) (i : ℕ) : Type 0 where
  pub ends : Ends st load window i
  pub fits : (a : ℕ) → window.low ≤ a → a < i → Tall st load a i → ⊥
  pub white : (a : ℕ) → window.split ≤ a → a < i → Full st load a i → ⊥
  pub short : (a : ℕ) → window.high ≤ a → a < i → Enough st load a i → ⊥

-- From what the ends were before line i comes the window of line i, and no end falls.
pub record Slid (sums : List ℕ) (load : Load) (old : Window) (i : ℕ) (new : Window) : Type 0 where
  pub low : old.low ≤ new.low
  pub split : old.split ≤ new.split
  pub high : old.high ≤ new.high
  pub within : new.low ≤ i
  pub between : new.split ≤ i
  pub inside : new.high ≤ i
  pub opens : (st : Stream) (m : ℕ) → Sums st m sums → i ≤ m → Ends st load old i → Open st load new i
