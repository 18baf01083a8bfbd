-- `feed` meets its contract. The loop's invariant: what was held of the lines before `from` is held of those before a; a
-- turn passes an unreached line, or drops what is no cheaper and pushes a reached one.
use Rattle.queues.specs.Run.{FeedRun}
use Rattle.queues.proofs.queue.feed.Given as goal

abbrev pub invariant-loop-a : goal.invariant-loop-a
invariant-loop-a l =
    FeedRun l.work l.sums l.initial.words l.words l.source l.queue l.from l.to l.tail l.a
