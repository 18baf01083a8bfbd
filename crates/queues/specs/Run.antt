-- What holds at each turn of the loops of a queue.
use Rattle.std.specs.Prelude.{ℕ, ◌+◌, ◌≤◌, ◌<◌, ◌≡◌, List, length}
use Rattle.window.specs.Rows.{Beside}
use Rattle.queues.specs.declared.queue.Source.{Source}
use Rattle.queues.specs.declared.queue.Queue.{Queue}
use Rattle.queues.specs.Queue.{cost_at, added_of, lines_in, tailed, Held}

-- From t on every entry costs x or more.
pub record DearerRun (words : List ℕ) (head tail x t : ℕ) : Type 0 where
  pub from : head ≤ t
  pub to : t ≤ tail
  pub dearer : (k : ℕ) → t ≤ k → k < tail → x ≤ cost_at words k

-- What was held of the lines before `from` is held of those before a.
pub record FeedRun (work sums words₀ words : List ℕ) (source : Source) (queue : Queue) (from to tail a : ℕ) : Type 0 where
  pub start : from ≤ a
  pub within : a ≤ to
  pub order : queue.head ≤ tail
  pub short : tail ≤ queue.base + a
  pub beside : Beside words₀ words queue.base (queue.base + to)
  pub sized : length words ≡ length words₀
  pub held : (low : ℕ) → Held (lines_in work source) (added_of sums queue.lacks) words₀ queue low from
      → Held (lines_in work source) (added_of sums queue.lacks) words (tailed queue tail) low a
