-- `read_later` meets its contract. The invariant is `Underway`: reading from here gives what the whole reading gives.
use Rattle.std.proofs.Common.{◌≡◌}
use Rattle.chapters.specs.Steps.{Underway}
use Rattle.chapters.proofs.read_later.Given as goal

abbrev pub invariant-loop-k : goal.invariant-loop-k
invariant-loop-k l =
    record { counted : l.book.chapters ≡ l.k; underway : Underway l.chapters.galleys.now l.chapters.lengths.now l.first.spec l.book l.at }
