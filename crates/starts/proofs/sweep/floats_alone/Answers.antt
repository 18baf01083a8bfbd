-- `floats_alone` meets its contract: each way is that of the definition.
use mathlib.Core.Path.{◌∙◌}
use Rattle.starts.specs.Sweep.{floats_alone}
use Rattle.starts.proofs.sweep.floats_alone.Goals as goal

pub returns-then-both : goal.returns-then-both
unfolding floats_alone
returns-then-both c = c.separated.ensures ∙ rw c.if-both.true

pub returns-else-both : goal.returns-else-both
unfolding floats_alone
returns-else-both c = rw c.if-both.false
