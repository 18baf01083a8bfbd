-- `reached` tells whether a page stops there: its entry can be read.
use Rattle.walk.specs.laws.Walk.{visits_stands}
use Rattle.walk.proofs.reached.Goals as goal

pub entry_of-requires : goal.entry_of-requires
entry_of-requires c = visits_stands c.requires.0 c.requires.1
