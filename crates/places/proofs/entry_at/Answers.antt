-- `entry_at` meets its contract: by the test on the tag, each arm is the clause of `entry_of` for it.
use mathlib.Core.Path.{◌≡◌}
use mathlib.Core.Logic.{◌≢◌}
use native.Mathlib.Omega.{arith}
use lib.ListN.{get_or}
use borrow.Author.Tests.{eq-eqb, ne_eqb}
use Rattle.places.specs.Entry.{entry_at}
use Rattle.places.proofs.entry_at.Goals as goal

pub returns-then-work-at-eq1 : goal.returns-then-work-at-eq1
unfolding entry_at
returns-then-work-at-eq1 c =
    let args = c.args in
    let tag : get_or args.work.now args.at 0 ≡ 1 = omega (arith, c.if-work-at-eq1.true) in
    simp (eq-eqb _ _ tag, c.joined-cost.ensures)

pub returns-else-work-at-eq1 : goal.returns-else-work-at-eq1
unfolding entry_at
returns-else-work-at-eq1 c =
    let args = c.args in
    let tag : get_or args.work.now args.at 0 ≢ 1 = omega (arith, c.if-work-at-eq1.false) in
    simp (ne_eqb _ _ tag)
