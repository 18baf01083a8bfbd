-- `entry_at` reads the entry where a page stops, which stands in the work area.
use Rattle.walk.specs.laws.Walk.{visits_stands}
use Rattle.closings.proofs.entry_at.Goals as goal

pub entry_of-requires : goal.entry_of-requires
entry_of-requires c = let p = c.requires in visits_stands p.0 p.1
