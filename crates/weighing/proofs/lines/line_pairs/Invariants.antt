-- `line_pairs` meets its contract. The invariant: the pairs that end before line i are counted, for what stands beside the lines and for
-- all else that the tally says.
use Rattle.weighing.specs.Lines.{Tallied}
use Rattle.weighing.proofs.lines.line_pairs.Given as goal

abbrev pub invariant-loop-i : goal.invariant-loop-i
invariant-loop-i l = Tallied l.sums l.first l.beside l.limit l.lines l.low l.i l.tally
