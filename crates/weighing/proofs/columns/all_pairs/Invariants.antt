-- `all_pairs` meets its contract. The loop's invariant is `AllCount`: the pages that end in columns before q are counted.
use Rattle.weighing.specs.Count.{AllCount, KnownOf}
use Rattle.weighing.proofs.columns.all_pairs.Given as goal

abbrev pub invariant-loop-q : goal.invariant-loop-q
invariant-loop-q l = AllCount l.s l.g l.first l.q l.pairs × KnownOf l.g l.sums l.first.lines l.known
