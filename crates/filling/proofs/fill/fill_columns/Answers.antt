-- `fill_columns` meets its contract. The loop's invariant is `ColumnsRun`: what is left of the columns makes of the words
-- what all columns make of those at the start.
use native.Mathlib.Omega.{arith}
use Rattle.reached.proofs.laws.Ring.{fresh_named}
use Rattle.filling.specs.laws.Columns.{columns_first, columns_done, columns_turn, columns_next}
use borrow.Author.Rules.{rules}
use Rattle.filling.proofs.fill.fill_columns.Goals as goal

pub loop-j-init : goal.loop-j-init
loop-j-init c = columns_first c.requires _ (search rules) (fresh_named 68)

pub fill_column-recall-requires : goal.fill_column-recall-requires
fill_column-recall-requires c =
    columns_turn c.requires c.loop-j.invariant (omega (arith, c.loop-j-test.true, c.columns_of-columns.ensures))

pub loop-j-preserved : goal.loop-j-preserved
loop-j-preserved c =
    columns_next c.requires c.loop-j.invariant (omega (arith, c.loop-j-test.true, c.columns_of-columns.ensures)) _ _ _ _
    (search rules) (search rules) c.fill_column-recall.ensures

pub returns : goal.returns
returns c =
    columns_done c.requires c.loop-j.invariant (omega (arith, c.loop-j-test.false, c.columns_of-columns.ensures))
