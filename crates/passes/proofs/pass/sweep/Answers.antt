-- `sweep` meets its contract. The loop's invariant is `SweepRun`: the sides before c know the starts of the pass too.
use native.Mathlib.Omega.{arith}
use Rattle.passes.proofs.laws.Sweeping.{sweep_first, sweep_none, sweep_stops, sweep_side, sweep_line, sweep_next}
use borrow.Author.Rules.{rules}
use Rattle.passes.proofs.pass.sweep.Goals as goal

pub loop-c-init : goal.loop-c-init
loop-c-init c = sweep_first c.requires c.sweep_stop-stop.result

pub sweep_stop-stop-requires : goal.sweep_stop-stop-requires
sweep_stop-stop-requires c = sweep_stops c.requires (omega (arith, c.if-g-pass.false))

pub sweep_side-requires : goal.sweep_side-requires
sweep_side-requires c =
    sweep_side c.requires (omega (arith, c.if-g-pass.false))
    c.sweep_stop-stop.ensures c.loop-c.invariant c.loop-c-test.true

pub last_line-requires : goal.last_line-requires
last_line-requires c =
    sweep_line c.requires (omega (arith, c.if-g-pass.false))
    c.sweep_stop-stop.ensures c.loop-c.invariant c.loop-c-test.true _ _
    (search rules)
    (search rules) c.sweep_side.ensures

pub loop-c-preserved : goal.loop-c-preserved
loop-c-preserved c =
    sweep_next c.requires (omega (arith, c.if-g-pass.false))
    c.sweep_stop-stop.ensures c.loop-c.invariant c.loop-c-test.true _ _
    (search rules)
    (search rules) c.sweep_side.ensures _
    (search rules) c.last_line.ensures

pub returns-then-g-pass : goal.returns-then-g-pass
returns-then-g-pass c = sweep_none c.requires c.if-g-pass.true
