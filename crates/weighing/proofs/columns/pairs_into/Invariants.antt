-- `pairs_into` meets its contract. The outer loop's invariant is `RowsCount`: the pages from all rows from that of b figures on are counted. The
-- inner one's is `RowCount`: so are those from the columns of the row before it with t tables and more.
use Rattle.weighing.specs.Count.{RowsCount, RowCount, KnownOf}
use Rattle.weighing.proofs.columns.pairs_into.Given as goal

abbrev pub invariant-loop-b : goal.invariant-loop-b
invariant-loop-b l = RowsCount l.s l.g l.first l.q l.b l.figures l.pairs × KnownOf l.g l.sums l.first.lines l.known

abbrev pub invariant-loop-t : goal.invariant-loop-t
invariant-loop-t l = RowCount l.s l.g l.first l.q l.b l.t l.figures l.tables l.pairs × KnownOf l.g l.sums l.first.lines l.known
