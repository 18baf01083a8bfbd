-- `free` meets its contract. The invariant: the layouts before number `at` are freed of the name, the others are as they were.
use Rattle.layouts.specs.laws.Layouts.{Freeing}
use Rattle.layouts.proofs.free.Given as goal

abbrev pub invariant-loop-at : goal.invariant-loop-at
invariant-loop-at l = Freeing l.name l.initial.layouts l.layouts l.at
