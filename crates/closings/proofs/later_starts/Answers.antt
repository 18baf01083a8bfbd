-- `later_starts` walks back through both tables side by side. The invariant says that what the walks from here on tell is what they tell
-- from the first stops on.
use Prim.Native.Nat.{◌+◌, ◌-◌}
use native.Mathlib.Omega.{arith}
use mathlib.Core.Path.{sym, ◌∙◌, ◌≡◌}
use Rattle.std.proofs.lemmas.Bool.{not-true, not-false}
use Rattle.closings.specs.laws.Pairs.{pair_less}
use Rattle.closings.specs.laws.Parting.{parting_first, parted_none, parted, parted_same, parting_next}
use Rattle.closings.proofs.later_starts.Goals as goal

pub loop-init : goal.loop-init
loop-init c =
    let e : c.args.g.text.count + c.args.g.figures.count + c.args.g.tables.count - 0 ≡ c.args.g.text.count + c.args.g.figures.count + c.args.g.tables.count = omega arith in
    rw e (parting_first c.requires)

pub returns-then-ne : goal.returns-then-ne
returns-then-ne c =
    let a = c.page_before-a.result.place in
    let b = c.page_before-b.result.place in
    c.lt.ensures ∙ pair_less b.line b.column a.line a.column
    ∙ parted c.loop.invariant _ _ c.page_before-a.ensures c.page_before-b.ensures (omega (arith, c.loop-test.true)) (not-true _ (sym c.ne.ensures ∙ c.if-ne.true))

pub loop-preserved : goal.loop-preserved
loop-preserved c =
    let run = c.loop.invariant in
    let more = c.loop-test.true in
    let same = parted_same run _ _ c.page_before-a.ensures c.page_before-b.ensures (omega (arith, more)) (not-false _ (sym c.ne.ensures ∙ c.if-ne.false)) in
    let most = c.args.g.text.count + c.args.g.figures.count + c.args.g.tables.count in
    let e : most - (c.loop.counter + 1) ≡ most - c.loop.counter - 1 = omega arith in
    rw e
    (parting_next run _ _ c.page_before-a.ensures c.page_before-b.ensures (omega (arith, more)) c.requires.first.table c.requires.second.table same.0 same.1)

pub returns : goal.returns
returns c = parted_none c.loop.invariant (omega (arith, c.loop-test.false))
