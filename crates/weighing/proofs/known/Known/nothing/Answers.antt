-- `nothing` meets its contract: no row is written.
use Rattle.weighing.proofs.laws.Known.{knows_none}
use Rattle.weighing.proofs.known.Known.nothing.Goals as goal

pub returns : goal.returns
returns c sums m first limit = knows_none sums 0 0 m first limit
