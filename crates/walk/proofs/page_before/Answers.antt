-- `page_before` goes one page back: to the start that the entry holds, on the side before.
use Rattle.galley.specs.Model.{sides_in}
use Rattle.entries.specs.laws.Entered.{side_low}
use Rattle.walk.specs.laws.Walk.{visits_stands}
use Rattle.walk.proofs.page_before.Goals as goal

pub entry_of-entry-requires : goal.entry_of-entry-requires
entry_of-entry-requires c = let p = c.requires in visits_stands p.0 p.1

pub side_before-requires : goal.side_before-requires
side_before-requires c =
    side_low (sides_in c.args.g) c.args.at.side c.requires.1.side
