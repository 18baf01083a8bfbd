-- `clear` meets its contract. The loop's invariant: the first k words are cleared, and the rest and the length are as they were.
use mathlib.Core.Path.{◌≡◌}
use lib.ListN.{length}
use Rattle.places.specs.Entry.{cleared}
use Rattle.places.proofs.clear.Given as goal

abbrev pub invariant-loop-k : goal.invariant-loop-k
invariant-loop-k l = (l.work ≡ cleared l.k l.initial.work) × (length l.work ≡ length l.initial.work)
