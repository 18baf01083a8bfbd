-- `waiting_on` meets its contract: what waited and is not placed on the page still waits, and the walk goes on from there.
use Rattle.rules.specs.laws.Walked.{walking_on}
use Rattle.rules.proofs.waiting.waiting_on.Goals as goal

pub waiting_after-requires : goal.waiting_after-requires
waiting_after-requires c =
    walking_on c.requires _ c.saturating_sub.ensures
    c.saturating_sub-2.ensures

pub returns : goal.returns
returns c = c.waiting_after.ensures
