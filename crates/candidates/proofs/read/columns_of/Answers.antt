-- `columns_of` meets its contract: it computes the definition.
use mathlib.Core.Path.{refl}
use Rattle.candidates.specs.Read.{columns_in}
use Rattle.candidates.proofs.read.columns_of.Goals as goal

pub returns : goal.returns
unfolding columns_in
returns c = refl
