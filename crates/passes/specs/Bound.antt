-- Bounds of what starts cost, kept behind the queues and the windows, and what they spare.
use Rattle.std.specs.Prelude.{ℕ, ◌+◌, ◌≤◌, ◌<◌, ◌≡◌, Bool, true, List, length, min, None, Some}
use Rattle.places.specs.declared.Place.{Place}
use Rattle.places.specs.Entry.{Entry, least, less}
use Rattle.places.specs.Address.{Stands}
use Rattle.places.specs.Table.{table_of}
use Rattle.queues.specs.declared.queue.Source.{Source}
use Rattle.window.specs.Rows.{Beside}
use Rattle.queues.specs.Queue.{cost_at, lines_in}

-- The lesser of a cost and that of an entry.
abbrev pub lesser_of : ℕ → Entry → ℕ
lesser_of below None = below
lesser_of below (Some l) = min below l.cost

-- The second entry costs more, or one of them is not reached.
abbrev pub grows_of : Entry → Entry → Bool
grows_of None far = true
grows_of (Some l) None = true
grows_of (Some l) (Some k) = less l.cost k.cost

-- The bound of line a.
abbrev pub bound_at : List ℕ → ℕ → ℕ
bound_at words a = cost_at words (a + 12000)

-- No line of a column from k on, up to the last, costs less than the bound of line k, for the lines after `since` and before the last.
pub record Bounded (col : ℕ → Entry) (words : List ℕ) (lines since : ℕ) : Type 0 where
  pub low : (k a x : ℕ) (r : Place) → since < k → k < lines → k ≤ a → a ≤ lines → col a ≡ least x r → bound_at words k ≤ x

-- The lines of a source stand in the work area, and there is room for their bounds.
pub record Standing (work words : List ℕ) (source : Source) (lines : ℕ) : Type 0 where
  pub stands : (a : ℕ) → a ≤ lines → Stands work source.tall (record { line = a; column = source.column }) source.side
  pub few : lines ≤ 4000
  pub column : source.column ≤ 10250
  pub room : 48000 ≤ length words

-- They do, and some of them are to be bounded.
pub record Boundable (work words : List ℕ) (source : Source) (lines since : ℕ) : Type 0 where
  pub all : Standing work words source lines
  pub within : since < lines

-- They are bounded, and all else in the words is as it was.
pub record BoundFound (work old : List ℕ) (source : Source) (lines since : ℕ) (new : List ℕ) : Type 0 where
  pub bounded : Bounded (lines_in work source) new lines since
  pub beside : Beside old new 12001 16000

-- The lines from a on are bounded, and none of them costs less than `below`.
pub record BoundRun (work words₀ words : List ℕ) (source : Source) (lines : ℕ) (below a : ℕ) : Type 0 where
  pub within : a ≤ lines
  pub sized : length words ≡ length words₀
  pub some : 0 < a
  pub lowest : (b x : ℕ) (r : Place) → a ≤ b → b ≤ lines → lines_in work source b ≡ least x r → below ≤ x
  pub bounded : (k b x : ℕ) (r : Place) → a ≤ k → k < lines → k ≤ b → b ≤ lines → lines_in work source b ≡ least x r → bound_at words k ≤ x
  pub beside : Beside words₀ words 12001 16000

-- A place stands in the work area, and the bounds before line `last` in the words.
pub record Comparable (work words : List ℕ) (tall : ℕ) (place : Place) (side last : ℕ) : Type 0 where
  pub stands : Stands work tall place side
  pub few : last ≤ 4000
  pub room : 48000 ≤ length words

-- The place is reached at less than the bound of line `low`, which there is.
pub record Beaten (work words : List ℕ) (tall : ℕ) (place : Place) (side since low last : ℕ) : Type 0 where
  pub cost : ℕ
  pub start : Place
  pub held : table_of tall work place.line place.column side ≡ least cost start
  pub after : since < low
  pub before : low < last
  pub less : cost < bound_at words low
