-- `may_stop` meets its contract: its tests are rules 14 and 17, by what the place says.
use Rattle.pricing.specs.laws.Price.{stops_of_lem}
use Rattle.pricing.proofs.may_stop.Goals as goal

pub returns : goal.returns
returns c = λ bytes g at side proper says turns. rw (stops_of_lem bytes g at side proper _ turns, says)
