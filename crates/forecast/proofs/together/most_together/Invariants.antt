-- `forecast::together::most_together` meets its contract. The invariant: no run of blocks so far is longer than the one looked at and not
-- too high, and one of its length is not.
use Rattle.forecast.specs.Together.{Longest}
use Rattle.forecast.specs.laws.Together.{heights_of}
use Rattle.forecast.proofs.together.most_together.Given as goal

abbrev pub invariant-loop-b : goal.invariant-loop-b
invariant-loop-b l = Longest (heights_of l.s l.stream) l.limit l.a l.b l.height
