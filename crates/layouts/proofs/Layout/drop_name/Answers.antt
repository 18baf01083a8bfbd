-- `drop_name` meets its contract: the test is the definition's.
use Rattle.layouts.specs.Names.{freed}
use Rattle.layouts.proofs.Layout.drop_name.Goals as goal

pub returns-then-is_named : goal.returns-then-is_named
unfolding freed
returns-then-is_named c = simp (← c.is_named.ensures, c.if-is_named.true)

pub returns-else-is_named : goal.returns-else-is_named
unfolding freed
returns-else-is_named c = simp (← c.is_named.ensures, c.if-is_named.false)
