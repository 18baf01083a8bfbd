-- `sweep_column` meets its contract. The loop's invariant is `ColumnSweepRun`: the starts in rows from b figures on are known. Where
-- the figures alone are too tall, no earlier row has a start, and none before the origin's figures is reached.
use native.Mathlib.Omega.{arith}
use Rattle.candidates.proofs.laws.Columns.{within_at}
use Rattle.starts.proofs.laws.Rows.{column_first, column_since, column_last, column_room, column_sweeps, column_next, column_tall}
use borrow.Author.Rules.{rules}
use Rattle.starts.proofs.sweep.sweep_column.Goals as goal

pub overflow_step-b : goal.overflow_step-b
overflow_step-b c =
    let few = c.requires.lent.sound.figures.few in
    let within = within_at c.args.g 0 c.args.j (omega arith) c.requires.lent.column in
    rw c.counts_at-end.ensures (omega (arith, within.figures))

pub loop-b-init : goal.loop-b-init
loop-b-init c =
    rw c.counts_at-end.ensures (column_first c.requires)

pub block_before-heights-requires : goal.block_before-heights-requires
block_before-heights-requires c = rw c.counts_at-end.ensures (column_room c.loop-b.invariant)

pub returns-then-g-heights : goal.returns-then-g-heights
returns-then-g-heights c =
    let asked = c.requires in
    column_since asked.lent asked.blank
    (column_tall c.loop-b.invariant (omega (arith, c.loop-b-test.true)) c.block_before-heights.result
    (rw c.counts_at-end.ensures at c.block_before-heights.ensures) c.if-g-heights.true) c.loop-b.invariant.kept c.loop-b.invariant.still

pub sweep_row-some-requires : goal.sweep_row-some-requires
sweep_row-some-requires c =
    rw c.counts_at-end.ensures
    (column_sweeps c.loop-b.invariant (omega (arith, c.loop-b-test.true)) c.block_before-heights.result
    (rw c.counts_at-end.ensures at c.block_before-heights.ensures) c.requires.summed c.floor_of-least.result
    (c.floor_of-least.ensures c.args.s.now))

pub loop-b-preserved : goal.loop-b-preserved
loop-b-preserved c =
    column_next c.loop-b.invariant (omega (arith, c.loop-b-test.true)) c.block_before-heights.result
    (rw c.counts_at-end.ensures at c.block_before-heights.ensures) c.floor_of-least.result _ _
    (search rules)
    (search rules) (rw c.counts_at-end.ensures at c.sweep_row-some.ensures)

pub returns : goal.returns
returns c =
    let asked = c.requires in
    column_since asked.lent asked.blank (column_last c.loop-b.invariant (omega (arith, c.loop-b-test.false))) c.loop-b.invariant.kept c.loop-b.invariant.still
