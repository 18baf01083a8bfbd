-- `waiting_floats` meets its contract. The invariant: those found so far and those that the walk from here on finds are all that
-- wait; each way that a turn ends is one law of laws/Waiting.
use Rattle.std.proofs.Common.{◌≡◌, ◌+◌, ◌<◌, ◌≤◌, arith}
use Rattle.galley.specs.Model.{floats_of}
use Rattle.rules.specs.laws.Waiting.{waits_more, waits_stop, waits_end, waits_known}
use Rattle.rules.proofs.waiting.waiting_floats.Goals as goal
use Rattle.rules.proofs.waiting.waiting_floats.Goals.{After-field}

pub loop-found-init : goal.loop-found-init
loop-found-init c =
    let a = c.args in
    let known = c.requires in
    waits_known (floats_of a.s.now a.floats) a.i a.j a.known known.within known.upto

-- The walk looks at a float that there is.
there : (c : After-field) → c.args.j + c.loop-found.found < c.args.floats.count
there c = omega (arith, c.loop-found-test.true)

pub returns-then-i-field : goal.returns-then-i-field
returns-then-i-field c =
    let a = c.args in
    let l = c.loop-found in
    let none = waits_stop (floats_of a.s.now a.floats) a.i (a.j + l.found) (there (goal.at.returns-then-i-field c).After-field)
    (omega (arith, c.if-i-field.true, c.field.ensures)) in
    omega (arith, l.invariant)

pub loop-found-preserved : goal.loop-found-preserved
loop-found-preserved c =
    let a = c.args in
    let l = c.loop-found in
    let more = waits_more (floats_of a.s.now a.floats) a.i (a.j + l.found) (there (goal.at.loop-found-preserved c).After-field)
    (omega (arith, c.if-i-field.false, c.field.ensures)) in
    let e : a.j + (l.found + 1) ≡ a.j + l.found + 1 = omega arith in
    rw e (omega (arith, l.invariant))

pub returns : goal.returns
returns c =
    let a = c.args in
    let l = c.loop-found in
    let through : a.floats.count ≤ a.j + l.found = omega (arith, c.loop-found-test.false) in
    let none = waits_end (floats_of a.s.now a.floats) a.i (a.j + l.found) through in
    omega (arith, l.invariant, l.auto.found-end, c.requires.within)
