-- `front` meets its contract: by whether the queue has an entry, each arm is that of the definition.
use borrow.Author.Tests.{lt-ltb, le-ltb}
use Rattle.queues.specs.Queue.{front_of}
use Rattle.queues.proofs.queue.front.Goals as goal

pub returns-then-queue : goal.returns-then-queue
unfolding front_of
returns-then-queue c = simp (lt-ltb _ _ c.if-queue.true, c.joined-cost.ensures)

pub returns : goal.returns
unfolding front_of
returns c = simp (le-ltb _ _ c.if-queue.false)
