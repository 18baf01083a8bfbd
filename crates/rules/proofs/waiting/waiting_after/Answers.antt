-- `waiting_after` meets its contract: a walk over each stream.
use Rattle.rules.proofs.waiting.waiting_after.Goals as goal

pub returns : goal.returns
returns c = rw (c.waiting_floats.ensures, c.waiting_floats-2.ensures)
