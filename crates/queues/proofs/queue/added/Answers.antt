-- `added` meets its contract: by whether pages lack something, each arm is that of the definition.
use Rattle.queues.specs.Queue.{added_of}
use Rattle.queues.proofs.queue.added.Goals as goal

pub returns-then-lacks : goal.returns-then-lacks
unfolding added_of
returns-then-lacks c = rw c.if-lacks.true c.spaced.ensures

pub returns : goal.returns
unfolding added_of
returns c = rw c.if-lacks.false
