-- `make` meets its contract: it is making after no opening.
use Rattle.making.specs.laws.Nothing.{nothing_made}
use Rattle.making.proofs.make.Goals as goal

pub returns : goal.returns
returns c = nothing_made c.make_after.ensures
