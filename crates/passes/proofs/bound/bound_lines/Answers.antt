-- `bound_lines` meets its contract. The loop's invariant is `BoundRun`: the lines from a on are bounded, and none of them costs less than
-- what is in hand.
use Prim.Native.Nat.{◌-◌}
use native.Mathlib.Omega.{arith}
use mathlib.Core.Path.{◌≡◌}
use Rattle.window.specs.Rows.{pushed}
use Rattle.queues.specs.Queue.{lines_in}
use Rattle.passes.specs.Bound.{lesser_of}
use Rattle.passes.proofs.laws.Bound.{bound_next}
use Rattle.passes.proofs.bound.bound_lines.Goals as goal
use Rattle.passes.proofs.bound.bound_lines.Goals.{After-lesser-least-in-loop-a}

-- The entry of the line before, and what is then in hand.
told : (c : After-lesser-least-in-loop-a)
    → c.lesser-least-in-loop-a.result
    ≡ lesser_of c.loop-a.least
    (lines_in c.args.work.now
    c.args.source
    (c.loop-a.a - 1))
told c = rw (c.lesser-least-in-loop-a.ensures, c.entry_of-entry.ensures, c.place_of-place.ensures)

pub loop-a-preserved : goal.loop-a-preserved
unfolding pushed
loop-a-preserved c =
    rw (told (goal.at.loop-a-preserved c).After-lesser-least-in-loop-a)
    (bound_next c.loop-a.invariant c.requires.all.few c.requires.all.room (omega (arith, c.loop-a-test.true)) _
    (rw (c.high_of.ensures, c.low_of.ensures, c.place_of-place.ensures, told (goal.at.loop-a-preserved c).After-lesser-least-in-loop-a) at c.put.ensures))
