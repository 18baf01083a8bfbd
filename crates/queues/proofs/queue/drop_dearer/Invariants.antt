-- `drop_dearer` meets its contract. The loop's invariant: the entries dropped cost x or more, to which each turn adds one.
use Rattle.queues.specs.Run.{DearerRun}
use Rattle.queues.proofs.queue.drop_dearer.Given as goal

abbrev pub invariant-loop-k : goal.invariant-loop-k
invariant-loop-k l = DearerRun l.words l.head l.tail l.x l.k
