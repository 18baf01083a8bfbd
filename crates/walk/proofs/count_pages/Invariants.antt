-- `count_pages` counts the pages on the way back. The invariant says that the count from here on is the whole count.
use Rattle.walk.specs.Traceable.{Counting}
use Rattle.walk.proofs.count_pages.Given as goal

abbrev pub invariant-loop-p : goal.invariant-loop-p
invariant-loop-p l = Counting l.g l.work l.origin l.initial.at l.at l.p
