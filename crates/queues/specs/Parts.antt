-- The two parts of a window, each with its queue: the starts of full pages, which have no white, and those of the others, whose white is
-- what they lack of htMax (document 02, S-10).
use Rattle.std.specs.Prelude.{ℕ, ◌+◌, ◌-◌, ◌*◌, ◌≤◌, ◌<◌, ◌≡◌, true, false, List, [], ◌∷◌, length, get_or, max, Bool, None, Some}
use Rattle.std.proofs.lemmas.List.Edits.{sets}
use Rattle.places.specs.declared.Place.{Place}
use Rattle.places.specs.Entry.{Entry, least}
use Rattle.places.specs.Address.{Stands}
use Rattle.window.specs.declared.slide.Window.{Window}
use Rattle.queues.specs.declared.queue.Source.{Source}
use Rattle.queues.specs.declared.queue.Queue.{Queue}
use Rattle.queues.specs.declared.parts.Parts.{Parts}
use Rattle.window.specs.Rows.{Beside}
use Rattle.window.specs.Slide.{Rises}
use Rattle.queues.specs.Queue.{line_at, added_of, lines_in, Held, Payable}

-- A queue from `base` on, whose head and tail are the words from `at` on.
abbrev pub queue_at : List ℕ → ℕ → ℕ → Bool → Queue
queue_at ends at base lacks = record { base = base; head = get_or ends at 0; tail = get_or ends (at + 1) 0; lacks = lacks }

-- A queue of no line.
abbrev pub emptied : ℕ → Bool → Queue
emptied base lacks = record { base = base; head = base; tail = base; lacks = lacks }

-- The queues of side c: each has the room of 4,000 entries, and their heads and tails stand as row c of `ends`.
abbrev pub parts_of : List ℕ → ℕ → Parts
parts_of ends c =
    record {
      full = record { base = 8000 * c; head = get_or ends (4 * c) 0; tail = get_or ends (4 * c + 1) 0; lacks = false };
      rest = record { base = 8000 * c + 4000; head = get_or ends (4 * c + 2) 0; tail = get_or ends (4 * c + 3) 0; lacks = true };
    }

-- The words with four of them written as row k.
unfoldable pub row_put : List ℕ → ℕ → ℕ → ℕ → ℕ → ℕ → List ℕ
row_put rows k first second third fourth = sets rows (4 * k) (first ∷ second ∷ third ∷ fourth ∷ [])

-- Queues of no line.
abbrev pub no_parts : Parts
no_parts =
    record {
      full = record { base = 0; head = 0; tail = 0; lacks = false };
      rest = record { base = 4000; head = 4000; tail = 4000; lacks = true };
    }

-- Where the part of the pages with white starts: from there on they are neither full nor too tall.
abbrev pub rest_from : Window → ℕ
rest_from window = max window.low window.split

-- Both queues lie from `base` on, and hold the parts of the window.
pub record Both (col : ℕ → Entry) (sums words : List ℕ) (base : ℕ) (parts : Parts) (window : Window) : Type 0 where
  pub first : parts.full.base ≡ base
  pub second : parts.rest.base ≡ base + 4000
  pub bare : parts.full.lacks ≡ false
  pub keyed : parts.rest.lacks ≡ true
  pub full : Held col (added_of sums false) words parts.full window.low window.split
  pub rest : Held col (added_of sums true) words parts.rest (rest_from window) window.high

-- The first entry of each queue is within its part.
pub record Fresh (words : List ℕ) (parts : Parts) (window : Window) : Type 0 where
  pub full : parts.full.head < parts.full.tail → window.low ≤ line_at words parts.full.head
  pub rest : parts.rest.head < parts.rest.tail → rest_from window ≤ line_at words parts.rest.head

-- Both ends of the parts are no later than line `top`, up to which the lines of the source stand in the work area and have their sums;
-- and both queues hold the window before.
pub record Movable (work sums words : List ℕ) (source : Source) (parts : Parts) (from to : Window) : Type 0 where
  pub top : ℕ
  pub few : top ≤ 4000
  pub split : to.split ≤ top
  pub high : to.high ≤ top
  pub stands : (a : ℕ) → a < top → Stands work source.tall (record { line = a; column = source.column }) source.side
  pub costs : Payable (lines_in work source) top
  pub summed : 3 * top + 3 ≤ length sums
  pub rises : Rises from to
  pub held : Both (lines_in work source) sums words parts.full.base parts from
  pub room : 3 * (parts.full.base + 8000) ≤ length words

-- Both queues hold the window, and all else in the words is as it was.
pub record Moved (work sums old : List ℕ) (source : Source) (parts : Parts) (to : Window) (r : Parts) (new : List ℕ) : Type 0 where
  pub held : Both (lines_in work source) sums new parts.full.base r to
  pub fresh : Fresh new r to
  pub beside : Beside old new parts.full.base (parts.full.base + 8000)

-- A start whose cost has the height up to its line, with the page's white in its place: what the page, which reaches so far from the
-- first line on, lacks of `top`.
unfoldable pub whitened_of : Entry → ℕ → ℕ → Entry
whitened_of None top reached = None
whitened_of (Some l) top reached = least ((l.cost + top) - reached) l.start

-- The cost is small, and the page lacks something.
pub record Whitenable (e : Entry) (top reached : ℕ) : Type 0 where
  pub small : (x : ℕ) (r : Place) → e ≡ least x r → x ≤ 11000000000000000000
  pub enough : (x : ℕ) (r : Place) → e ≡ least x r → reached ≤ x + top
