-- `gather` meets its contract. The loop's invariant: the rows up to line k are written, and how far it reaches is in hand; each turn
-- writes the next row, and so does the end, where that is one of no line.
use Prim.Native.Nat.{◌+◌, ◌*◌, ◌≤◌}
use native.Mathlib.Omega.{arith}
use mathlib.Core.Path.{ap, ◌∙◌}
use lib.ListN.{length}
use Rattle.window.specs.Rows.{pushed}
use Rattle.window.specs.laws.Rows.{pushed_length}
use Rattle.window.specs.laws.Sums.{sums_first, sums_fit, sums_next, sums_last}
use Rattle.window.proofs.sums.gather.Goals as goal
use Rattle.window.proofs.sums.gather.Goals.{After-field-most, At-loop-k}

pub loop-k-init : goal.loop-k-init
unfolding pushed
loop-k-init c =
    sums_first c.args.s.now c.args.text c.args.sums.now _ c.requires.room
    c.put.ensures

-- There is room for a row after the last line.
room : (c : At-loop-k)
    → 3 * c.args.text.count + 6 ≤ length c.loop-k.sums
unfolding pushed
room c =
    let first = c.put.ensures in
    let same = c.loop-k.invariant.sized ∙ ap length first ∙ pushed_length c.args.sums.now 0 0 0 0 in
    omega (arith, c.requires.room)

-- The sums in hand and the fields of the line are small.
fit : (c : After-field-most)
    → c.loop-k.tight + c.loop-k.loose
    + c.field-height.result + c.field-least.result + c.field-most.result ≤ 1600300000
fit c =
    let st = c.loop-k in
    sums_fit c.args.s.now c.args.text _ st.sums st.tight st.loose st.k _ _ _ st.invariant
    c.loop-k-test.true
    c.field-height.ensures c.field-least.ensures c.field-most.ensures c.requires.sound c.requires.few

pub overflow_add-tight-in-loop-k : goal.overflow_add-tight-in-loop-k
overflow_add-tight-in-loop-k c = omega (arith, fit (goal.at.overflow_add-tight-in-loop-k c).After-field-most)

pub overflow_add-loose-in-loop-k : goal.overflow_add-loose-in-loop-k
overflow_add-loose-in-loop-k c = omega (arith, fit (goal.at.overflow_add-loose-in-loop-k c).After-field-most)

pub loop-k-preserved : goal.loop-k-preserved
unfolding pushed
loop-k-preserved c =
    let st = c.loop-k in
    let a = c.args in
    sums_next a.s.now a.text _ st.sums st.tight st.loose st.k _ _ _ st.invariant
    c.loop-k-test.true
    c.field-height.ensures c.field-least.ensures c.field-most.ensures _ (room (goal.at.loop-k-preserved c).At-loop-k)
    c.put-in-loop-k.ensures

pub returns : goal.returns
unfolding pushed
returns c =
    let st = c.loop-k in
    let a = c.args in
    sums_last a.s.now a.text _ st.sums _ st.tight st.loose st.k st.invariant c.loop-k-test.false
    (room (goal.at.returns c).At-loop-k) c.put-2.ensures
