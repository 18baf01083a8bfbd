-- `fill_far` meets its contract: whatever the first try left in the work area, the second one fills it anew.
use native.Mathlib.Omega.{arith}
use mathlib.Core.Path.{refl}
use Rattle.limits.specs.Sought.{within, limit_of, Tried}
use Rattle.filling.specs.laws.Columns.{fillable_as}
use Rattle.limits.specs.laws.Sought.{limit_low, sought_reached, sought_all, tried_long}
use Rattle.limits.proofs.fill_far.Goals as goal
use Rattle.limits.proofs.fill_far.Goals.{After-fill_within}

pub fill_within-requires : goal.fill_within-requires
fill_within-requires c =
    rw (c.limited-near.ensures, c.limit_of.ensures)
    (fillable_as c.requires _ (limit_low _) _ refl)

-- The first try, within the limit of the turns.
tried : (c : After-fill_within)
    → (let a = c.args in
    Tried a.s.now a.g (within (limit_of a.turns) a.origin) a.work.now c.fill_within.new.work c.fill_within.result)
tried c = rw (c.limited-near.ensures, c.limit_of.ensures) at c.fill_within.ensures

pub returns-then-fill_within : goal.returns-then-fill_within
returns-then-fill_within c =
    rw (c.limited-near.ensures, c.limit_of.ensures)
    (sought_reached c.requires _ (limit_low _) _ (tried (goal.at.returns-then-fill_within c).After-fill_within) c.if-fill_within.true)

pub fill-requires : goal.fill-requires
fill-requires c =
    rw c.limited-all.ensures
    (fillable_as c.requires _ (omega arith) _ (tried_long c.requires _ _ (tried (goal.at.fill-requires c).After-fill_within)))

pub returns : goal.returns
returns c =
    rw c.limited-all.ensures
    (sought_all c.requires _ _ (tried (goal.at.returns c).After-fill_within) _
    (rw c.limited-all.ensures at c.fill.ensures))
