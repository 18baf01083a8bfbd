-- `later_starts` walks back through both tables side by side. The invariant says that what the walks from here on tell is what they tell
-- from the first stops on.
use Prim.Native.Nat.{◌-◌}
use Rattle.closings.specs.Chapter.{Parting}
use Rattle.closings.proofs.later_starts.Given as goal

abbrev pub invariant-loop : goal.invariant-loop
invariant-loop l = Parting l.g l.one l.two l.initial.a l.initial.b l.a l.b (l.most - l.counter)
