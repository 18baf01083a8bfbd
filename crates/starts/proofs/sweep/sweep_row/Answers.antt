-- `sweep_row` meets its contract. The loop's invariant is `RowRun`: the starts in the row's columns with t tables and more are known.
-- Where the floats alone are too tall, no earlier column of the row has a start, and none before the origin's tables is reached.
use mathlib.Core.Path.{refl}
use native.Mathlib.Omega.{arith}
use Rattle.candidates.specs.Read.{row_of}
use Rattle.starts.proofs.laws.Row.{from_small, row_first, row_last, row_room, row_told, row_stands, row_lays, row_unreached, row_sweeps, row_swept, row_tall}
use Rattle.std.proofs.Math.Bool.{or-true}
use Rattle.std.proofs.lemmas.Bool.{le-leb}
use borrow.Author.Rules.{rules}
use Rattle.starts.proofs.sweep.sweep_row.Goals as goal

pub loop-t-init : goal.loop-t-init
loop-t-init c = rw c.row_top-t.ensures (row_first c.requires)

pub block_before-tables-requires : goal.block_before-tables-requires
block_before-tables-requires c =
    row_room c.requires c.loop-t.invariant

pub floats_alone-floats-requires : goal.floats_alone-floats-requires
floats_alone-floats-requires c =
    row_lays c.requires c.loop-t.invariant (omega (arith, c.loop-t-test.true))
    c.block_before-tables.result c.block_before-tables.ensures

pub returns-then-g-floats : goal.returns-then-g-floats
returns-then-g-floats c =
    row_tall c.requires c.loop-t.invariant (omega (arith, c.loop-t-test.true))
    c.block_before-tables.result c.block_before-tables.ensures _ refl c.floats_alone-floats.result c.floats_alone-floats.ensures c.if-g-floats.true

pub overflow_add-from : goal.overflow_add-from
unfolding row_of
overflow_add-from c =
    omega (
      arith,
      from_small c.requires c.loop-t.invariant (omega (arith, c.loop-t-test.true)),
    )

pub reach_in-reach-requires : goal.reach_in-reach-requires
unfolding row_of
reach_in-reach-requires c =
    let asked = c.requires in
    let some = c.loop-t-test.true in
    (row_stands asked c.loop-t.invariant (omega arith), row_told asked c.loop-t.invariant (omega arith))

pub sweep-requires : goal.sweep-requires
unfolding row_of
sweep-requires c =
    row_sweeps c.requires c.loop-t.invariant (omega (arith, c.loop-t-test.true))
    c.block_before-tables.result c.block_before-tables.ensures _ refl c.floats_alone-floats.result c.floats_alone-floats.ensures
    (omega (arith, c.if-g-floats.false)) c.white_at.result c.white_at.ensures.0 c.in-Some.reach c.in-Some.ensures.1

pub loop-t-preserved-in_default : goal.loop-t-preserved-in_default
unfolding row_of
loop-t-preserved-in_default c =
    row_unreached c.requires c.loop-t.invariant (omega (arith, c.loop-t-test.true)) c.block_before-tables.result c.block_before-tables.ensures c.in_default.ensures

pub loop-t-preserved : goal.loop-t-preserved
unfolding row_of
loop-t-preserved c =
    rw (le-leb _ _ c.in-Some.ensures.0, or-true) at
    (row_swept c.requires c.loop-t.invariant (omega (arith, c.loop-t-test.true))
    c.block_before-tables.result c.block_before-tables.ensures _ refl c.floats_alone-floats.result c.floats_alone-floats.ensures
    c.white_at.result c.in-Some.reach c.sweep.new.work c.sweep.new.words
    (search rules)
    (search rules) c.sweep.ensures)

pub returns : goal.returns
returns c =
    row_last c.requires c.loop-t.invariant (omega (arith, c.loop-t-test.false))
