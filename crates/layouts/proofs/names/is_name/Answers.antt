-- `is_name` meets its contract: the tests are the definition's, in its order.
use mathlib.Core.Path.{refl}
use Rattle.layouts.specs.Names.{is_name}
use Rattle.layouts.proofs.names.is_name.Goals as goal

pub returns : goal.returns
unfolding is_name
returns c = refl
