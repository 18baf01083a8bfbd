-- `wins` meets its contract: each arm is a clause of the definition.
use Rattle.candidates.specs.Better.{wins}
use Rattle.candidates.proofs.choice.wins.Goals as goal

pub returns-in-None : goal.returns-in-None
unfolding wins
returns-in-None c = cc

pub returns-in-Some : goal.returns-in-Some
unfolding wins
returns-in-Some c = cc
