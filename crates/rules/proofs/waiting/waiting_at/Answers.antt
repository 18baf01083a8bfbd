-- `waiting_at` meets its contract: what waits counts exactly where a leaf ends.
use Rattle.rules.specs.Waiting.{waiting_at}
use Rattle.rules.proofs.waiting.waiting_at.Goals as goal

pub returns-then-ends_spread : goal.returns-then-ends_spread
unfolding waiting_at
returns-then-ends_spread c = rw (← c.ends_spread.ensures, c.if-ends_spread.true)

pub returns-else-ends_spread : goal.returns-else-ends_spread
unfolding waiting_at
returns-else-ends_spread c = rw (← c.ends_spread.ensures, c.if-ends_spread.false)
