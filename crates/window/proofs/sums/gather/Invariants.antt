-- `gather` meets its contract. The loop's invariant: the rows up to line k are written, and how far it reaches is in hand; each turn
-- writes the next row, and so does the end, where that is one of no line.
use Rattle.window.specs.Run.{SumsRun}
use Rattle.window.proofs.sums.gather.Given as goal

abbrev pub invariant-loop-k : goal.invariant-loop-k
invariant-loop-k l = SumsRun l.s l.text l.initial.sums l.sums l.tight l.loose l.k
