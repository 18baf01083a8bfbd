-- `first_below` meets its contract. The loop's invariant: the pages from the lines passed all reach the limit, to which each turn
-- adds one.
use Prim.Native.Nat.{suc, ◌+◌, ◌≤◌}
use Rattle.window.specs.First.{First}
use Rattle.window.specs.Sums.{spaced_at}
use Rattle.window.proofs.slide.first_below.Given as goal

abbrev pub invariant-loop-a : goal.invariant-loop-a
invariant-loop-a l =
    (l.a ≤ l.i) × First (λ k. l.limit + spaced_at l.sums l.space k) (suc l.far) l.from l.a l.a
