-- `reading::read_galley` meets its contract. The invariant is `Underway`: reading from here gives what the whole reading
-- gives. The measure is how many bytes are left.
use Prim.Native.Nat.{◌-◌}
use lib.ListN.{length}
use Rattle.galley.proofs.laws.Underway.{Underway}
use Rattle.reading.proofs.read_galley.Given as goal

abbrev pub invariant-loop-next : goal.invariant-loop-next
invariant-loop-next l = Underway l.s l.so

abbrev pub decreases-loop-next : goal.decreases-loop-next
decreases-loop-next l = length l.s - l.so.at
