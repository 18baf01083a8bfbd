-- `find` meets its contract. The invariant: the layout that is sought is not before number `at`.
use Rattle.layouts.specs.laws.Layouts.{Seeking}
use Rattle.layouts.proofs.find.Given as goal

abbrev pub invariant-loop-at : goal.invariant-loop-at
invariant-loop-at l = Seeking l.layouts l.name l.at
