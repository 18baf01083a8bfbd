-- `write_pages` writes the pages on the way back. The invariant says that the writing from here on is the whole writing, and
-- that there is room for the pages left.
use Rattle.walk.specs.Traceable.{Writing}
use Rattle.walk.proofs.write_pages.Given as goal

abbrev pub invariant-loop-r : goal.invariant-loop-r
invariant-loop-r l = Writing l.g l.work l.initial.at l.p l.initial.pages l.pages l.at l.r
