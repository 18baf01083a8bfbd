-- `pairs_into` meets its contract. The outer loop's invariant is `RowsCount`: the pages from all rows from that of b figures on are counted. The
-- inner one's is `RowCount`: so are those from the columns of the row before it with t tables and more. A turn counts one column; those
-- between it and the next add nothing.
use Rattle.std.proofs.Common.{◌-◌, arith}
use Rattle.candidates.specs.Read.{counts_at}
use Rattle.candidates.proofs.laws.Columns.{within_at}
use Rattle.weighing.specs.Count.{PartOf, ColumnStep}
use Rattle.weighing.proofs.laws.From.{from_lays, from_between}
use Rattle.weighing.proofs.laws.Back.{column_short}
use Rattle.weighing.proofs.laws.Count.{rows_first, rows_last, figure_room, row_first, row_last, table_room, row_tabled, row_few, row_counted, row_tall, row_all}
use Rattle.weighing.proofs.columns.pairs_into.Goals as goal
use Rattle.weighing.proofs.columns.pairs_into.Goals.{After-block_before-tables, After-pairs_between-pairs}

pub returns-then-end-first : goal.returns-then-end-first
returns-then-end-first c =
    (column_short c.requires.0 (rw c.counts_at-end.ensures at c.if-end-first.true), c.requires.1)

pub overflow_step-b : goal.overflow_step-b
overflow_step-b c =
    let few = c.requires.0.ready.sound.figures.few in
    let within = within_at c.args.g 0 c.args.q (omega arith) c.requires.0.column in
    rw c.counts_at-end.ensures (omega (arith, within.figures))

pub loop-b-init : goal.loop-b-init
loop-b-init c = (rw c.counts_at-end.ensures (rows_first c.requires.0), c.requires.1)

pub block_before-figures-requires : goal.block_before-figures-requires
block_before-figures-requires c = rw c.counts_at-end.ensures (figure_room c.requires.0 c.loop-b.invariant.0)

pub loop-t-init : goal.loop-t-init
loop-t-init c = (
  rw c.counts_at-end.ensures
      (row_first c.requires.0 c.loop-b.invariant.0 (omega arith) _ (rw c.counts_at-end.ensures at c.block_before-figures.ensures)),
  c.loop-b.invariant.1,
)

pub block_before-tables-requires : goal.block_before-tables-requires
block_before-tables-requires c = rw c.counts_at-end.ensures (table_room c.requires.0 c.loop-t.invariant.0)

-- What the next column has of tables.
tabled : (c : After-block_before-tables)
    → PartOf c.args.s.now c.args.g.tables c.args.first.tables (counts_at c.args.g 0 c.args.q).tables (record { from = c.loop-t.t - 1; heights = c.block_before-tables.result })
tabled c =
    row_tabled c.requires.0 c.loop-t.invariant.0 (omega (arith, c.loop-t-test.true)) _ (rw c.counts_at-end.ensures at c.block_before-tables.ensures)

pub floats_alone-floats-requires : goal.floats_alone-floats-requires
floats_alone-floats-requires c =
    from_lays c.requires.0 c.loop-t.invariant.0.figured (tabled (goal.at.floats_alone-floats-requires c).After-block_before-tables)

pub pairs_between-pairs-requires : goal.pairs_between-pairs-requires
pairs_between-pairs-requires c = (
  from_between c.requires.0 c.loop-t.invariant.0.figured (tabled (goal.at.pairs_between-pairs-requires c).After-block_before-tables) c.floats_alone-floats.result
      (rw c.counts_at-end.ensures at c.floats_alone-floats.ensures),
  c.loop-t.invariant.1,
)

-- What a turn adds.
step : (c : After-pairs_between-pairs) → let a = c.args in
    ColumnStep a.s.now a.g a.first a.q (record { from = c.loop-b.b - 1; heights = c.block_before-figures.result })
    (record { from = c.loop-t.t - 1; heights = c.block_before-tables.result }) c.floats_alone-floats.result c.pairs_between-pairs.result
step c =
    record {
      laid = rw c.counts_at-end.ensures at c.floats_alone-floats.ensures;
      few = c.pairs_between-pairs.ensures.0;
      counted = rw c.counts_at-end.ensures at (c.pairs_between-pairs.ensures.1 _ c.requires.0.ready.summed.rows);
    }

pub overflow_add-pairs : goal.overflow_add-pairs
overflow_add-pairs c =
    omega (
      arith,
      row_few c.requires.0 c.loop-t.invariant.0 (omega (arith, c.loop-t-test.true)) _ (rw c.counts_at-end.ensures at c.block_before-tables.ensures)
          (step (goal.at.overflow_add-pairs c).After-pairs_between-pairs),
    )

pub returns-then-bare : goal.returns-then-bare
returns-then-bare c = (
  row_all c.requires.0 c.loop-t.invariant.0 (omega (arith, c.loop-t-test.true)) _ (rw c.counts_at-end.ensures at c.block_before-tables.ensures)
      (step (goal.at.returns-then-bare c).After-pairs_between-pairs) c.if-g-floats.true (rw c.counts_at-end.ensures at c.if-bare.true),
  c.pairs_between-pairs.ensures.2,
)

pub loop-b-preserved : goal.loop-b-preserved
loop-b-preserved c = (
  row_tall c.requires.0 c.loop-t.invariant.0 (omega (arith, c.loop-t-test.true)) _ (rw c.counts_at-end.ensures at c.block_before-tables.ensures)
      (step (goal.at.loop-b-preserved c).After-pairs_between-pairs) c.if-g-floats.true,
  c.pairs_between-pairs.ensures.2,
)

pub loop-t-preserved : goal.loop-t-preserved
loop-t-preserved c = (
  row_counted c.requires.0 c.loop-t.invariant.0 (omega (arith, c.loop-t-test.true)) _ (rw c.counts_at-end.ensures at c.block_before-tables.ensures)
      (step (goal.at.loop-t-preserved c).After-pairs_between-pairs),
  c.pairs_between-pairs.ensures.2,
)

pub loop-b-preserved-in-loop-t : goal.loop-b-preserved-in-loop-t
loop-b-preserved-in-loop-t c =
    (row_last c.requires.0 c.loop-t.invariant.0 (omega (arith, c.loop-t-test.false)), c.loop-t.invariant.1)

pub returns : goal.returns
returns c = (rows_last c.requires.0 c.loop-b.invariant.0 (omega (arith, c.loop-b-test.false)), c.loop-b.invariant.1)
