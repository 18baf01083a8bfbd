-- `reach_in` meets its contract: a column that the ring covers and does not name is not reached, and of another the lines that are left to
-- look at are looked at.
use Rattle.std.proofs.Common.{arith}
use Rattle.candidates.proofs.laws.Columns.{columns_few}
use Rattle.reached.proofs.laws.Look.{reach_after, hint_holds}
use Rattle.reached.proofs.look.reach_in.Goals as goal

pub hint_for-requires : goal.hint_for-requires
hint_for-requires c = omega (arith, c.requires.0.wide.within, columns_few c.args.g c.requires.0.wide.floats)

pub reach_of-requires : goal.reach_of-requires
reach_of-requires c =
    let hinted = hint_holds c.requires.0.wide.few c.requires.1 c.in_ok-hint.ensures in
    (c.requires.0, (c.hint_end.ensures.0, record { none = λ a d l m. hinted.late.none a d (c.hint_end.ensures.1 a l m) m }))

pub returns : goal.returns
returns c =
    let hinted = hint_holds c.requires.0.wide.few c.requires.1 c.in_ok-hint.ensures in
    reach_after hinted.early hinted.within _ (rw (c.max-first.ensures, c.first_of.ensures) at c.reach_of.ensures)
