-- `is_origin` meets its contract: its three tests are those of `begins`.
use Rattle.candidates.specs.Search.{begins}
use Rattle.candidates.proofs.read.is_origin.Goals as goal

pub returns : goal.returns
unfolding begins
returns c = rw c.side_of.ensures
