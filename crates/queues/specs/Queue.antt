-- The queue of a part of a window: the lines that may still be the best start, and what is known of them.
use Rattle.std.specs.Prelude.{ℕ, suc, ◌+◌, ◌*◌, ◌≤◌, ◌<◌, ◌≡◌, Bool, List, length, get_or, ltb, None}
use Rattle.model.specs.Gather.{pick}
use Rattle.places.specs.Entry.{Entry, least, low_of, high_of, joined}
use Rattle.places.specs.Best.{Paid, Affordable}
use Rattle.places.specs.Address.{Stands}
use Rattle.places.specs.Table.{table_of}
use Rattle.window.specs.First.{First}
use Rattle.window.specs.Rows.{pushed, Beside}
use Rattle.window.specs.Sums.{spaced_at}
use Rattle.queues.specs.declared.queue.Source.{Source}
use Rattle.queues.specs.declared.queue.Queue.{Queue}

-- The line of entry k.
abbrev pub line_at : List ℕ → ℕ → ℕ
line_at words k = get_or words (3 * k) 0

-- Its cost, of two words.
abbrev pub cost_at : List ℕ → ℕ → ℕ
cost_at words k = joined (get_or words (3 * k + 1) 0) (get_or words (3 * k + 2) 0)

-- The words with a line and its cost as entry `at`.
abbrev pub queued : List ℕ → ℕ → ℕ → ℕ → List ℕ
queued words at line cost = pushed words at line (low_of cost) (high_of cost)

-- The first entry of a queue as a start in column b; unreached where the queue is empty.
unfoldable pub front_of : List ℕ → Queue → ℕ → Entry
front_of words queue b =
    pick (ltb queue.head queue.tail)
    (least (cost_at words queue.head) (record { line = line_at words queue.head; column = b }))
    None

-- What line a adds to its cost: where pages lack something, the height up to it at its loosest.
unfoldable pub added_of : List ℕ → Bool → ℕ → ℕ
added_of sums lacks a = pick lacks (spaced_at sums 1 a) 0

-- The lines of a column on a side, as starts: the entry of each.
abbrev pub lines_of : List ℕ → ℕ → ℕ → ℕ → ℕ → Entry
lines_of work tall b side a = table_of tall work a b side

-- Those of a source.
abbrev pub lines_in : List ℕ → Source → ℕ → Entry
lines_in work source = lines_of work source.tall source.column source.side

-- An entry of the queue that is no earlier than line a and no dearer than x.
pub record Cover (words : List ℕ) (queue : Queue) (a x : ℕ) : Type 0 where
  pub at : ℕ
  pub from : queue.head ≤ at
  pub to : at < queue.tail
  pub later : a ≤ line_at words at
  pub cheaper : cost_at words at ≤ x

-- The entries of a queue rise in line and in cost, each is a reached line before `high` with its cost and what it adds, and every
-- reached line from `low` on and before `high` is covered by one.
pub record Held (col : ℕ → Entry) (add : ℕ → ℕ) (words : List ℕ) (queue : Queue) (low high : ℕ) : Type 0 where
  pub based : queue.base ≤ queue.head
  pub order : queue.head ≤ queue.tail
  pub short : queue.tail ≤ queue.base + high
  pub lines : (k : ℕ) → queue.head ≤ k → suc k < queue.tail → line_at words k < line_at words (suc k)
  pub costs : (k : ℕ) → queue.head ≤ k → suc k < queue.tail → cost_at words k < cost_at words (suc k)
  pub before : (k : ℕ) → queue.head ≤ k → k < queue.tail → line_at words k < high
  pub reached : (k : ℕ) → queue.head ≤ k → k < queue.tail
      → Paid (col (line_at words k)) (add (line_at words k)) (cost_at words k)
  pub covered : (a x : ℕ) → low ≤ a → a < high → Paid (col a) (add a) x → Cover words queue a x

-- The reached lines from `low` on and before `high`, as starts in column b, each with what it adds.
abbrev pub Lines : (ℕ → Entry) → (ℕ → ℕ) → ℕ → ℕ → ℕ → ℕ → ℕ → ℕ → Type 0
Lines col add low high b a b' x = (low ≤ a) × (a < high) × (b' ≡ b) × Paid (col a) (add a) x

-- A queue of so many entries lies in the words.
pub record Entries (words : List ℕ) (head tail : ℕ) : Type 0 where
  pub order : head ≤ tail
  pub room : 3 * tail ≤ length words

-- From r on, every entry costs x or more; the one before r costs less.
pub record Dropped (words : List ℕ) (head tail x r : ℕ) : Type 0 where
  pub from : head ≤ r
  pub to : r ≤ tail
  pub dearer : (k : ℕ) → r ≤ k → k < tail → x ≤ cost_at words k
  pub cheaper : (k : ℕ) → head ≤ k → suc k ≡ r → cost_at words k < x

-- Before r every entry's line is before `low`; that of r, if there is one, is not.
abbrev pub Passed : List ℕ → ℕ → ℕ → ℕ → ℕ → Type 0
Passed words head tail low r = First (line_at words) low head tail r

-- The costs of the first n lines are small enough for what they add.
abbrev pub Payable : (ℕ → Entry) → ℕ → Type 0
Payable col n = (a : ℕ) → a < n → Affordable (col a)

-- The lines of the source before `to` stand in the work area and have their sums, and the queue has room for all of them.
pub record Feedable (work sums words : List ℕ) (source : Source) (queue : Queue) (from to : ℕ) : Type 0 where
  pub stands : (a : ℕ) → a < to → Stands work source.tall (record { line = a; column = source.column }) source.side
  pub costs : Payable (lines_in work source) to
  pub summed : 3 * to + 3 ≤ length sums
  pub based : queue.base ≤ queue.head
  pub order : queue.head ≤ queue.tail
  pub short : queue.tail ≤ queue.base + from
  pub start : from ≤ to
  pub room : 3 * (queue.base + to) ≤ length words

-- The queue with another tail.
abbrev pub tailed : Queue → ℕ → Queue
tailed queue tail = record { base = queue.base; head = queue.head; tail = tail; lacks = queue.lacks }

-- The queue with another head.
abbrev pub headed : Queue → ℕ → Queue
headed queue head = record { base = queue.base; head = head; tail = queue.tail; lacks = queue.lacks }

-- What was held of the lines before `from` is held of those before `to`, and other queues are as they were.
pub record Fed (work sums old : List ℕ) (source : Source) (queue : Queue) (from to r : ℕ) (new : List ℕ) : Type 0 where
  pub order : queue.head ≤ r
  pub short : r ≤ queue.base + to
  pub beside : Beside old new queue.base (queue.base + to)
  pub held : (low : ℕ) → Held (lines_in work source) (added_of sums queue.lacks) old queue low from
      → Held (lines_in work source) (added_of sums queue.lacks) new (tailed queue r) low to

-- The same for the lines before the part's end.
abbrev pub Advanceable : List ℕ → List ℕ → List ℕ → Source → Queue → ℕ → ℕ → Type 0
Advanceable work sums words source queue from high = Feedable work sums words source queue from high

-- What was held of the part before is held of this one, whose first entry is within it.
pub record Advanced (work sums old : List ℕ) (source : Source) (queue : Queue) (from low high : ℕ) (r : Queue) (new : List ℕ)
    : Type 0 where
  pub base : r.base ≡ queue.base
  pub lacks : r.lacks ≡ queue.lacks
  pub beside : Beside old new queue.base (queue.base + high)
  pub held : (before : ℕ) → before ≤ low → Held (lines_in work source) (added_of sums queue.lacks) old queue before from
      → Held (lines_in work source) (added_of sums queue.lacks) new r low high
  pub fresh : r.head < r.tail → low ≤ line_at new r.head

-- The first entry lies in the words, and b is a column.
pub record QueueStands (words : List ℕ) (queue : Queue) (b : ℕ) : Type 0 where
  pub order : queue.head ≤ queue.tail
  pub room : 3 * queue.tail ≤ length words
  pub column : b ≤ 10250
