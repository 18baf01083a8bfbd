-- `put` meets its contract. The loop's invariant: the first k words of the row are written.
use mathlib.Core.Path.{◌≡◌}
use lib.Seq.{paste}
use Rattle.places.proofs.put.Given as goal

abbrev pub invariant-loop-k : goal.invariant-loop-k
invariant-loop-k g l = l.words ≡ paste l.initial.words l.at l.row l.k
