-- `is_named` meets its contract. The invariant: the bytes before number `i` are the same, so that the rest decides.
use Rattle.layouts.specs.laws.Names.{Matching}
use Rattle.layouts.proofs.Layout.is_named.Given as goal

abbrev pub invariant-loop-i : goal.invariant-loop-i
invariant-loop-i l = Matching l.self.name l.name l.i
