-- `drop_passed` meets its contract. The loop's invariant: the lines dropped are before `low`, to which each turn adds one.
use Rattle.window.specs.First.{First}
use Rattle.queues.specs.Queue.{line_at}
use Rattle.queues.proofs.queue.drop_passed.Given as goal

abbrev pub invariant-loop-h : goal.invariant-loop-h
invariant-loop-h l = First (line_at l.words) l.low l.head l.h l.h
