-- `hint_in` meets its contract. The loop's invariant: no word before `at` names the column.
use Prim.Native.Nat.{ℕ, ◌+◌, ◌<◌}
use mathlib.Core.Path.{◌≡◌}
use lib.ListN.{get_or}
use Rattle.reached.specs.Ring.{hint_name}
use Rattle.reached.proofs.ring.hint_in.Given as goal

abbrev pub invariant-loop-at : goal.invariant-loop-at
invariant-loop-at l = (k : ℕ) → k < l.at → hint_name (get_or l.seen k 0) ≡ l.column + 1 → ⊥
