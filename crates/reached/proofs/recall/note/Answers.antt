-- `note` meets its contract: a column without a reached line is left out, and any other is put in the ring with its lines.
use Rattle.std.proofs.Common.{arith}
use Rattle.candidates.proofs.laws.Columns.{columns_few}
use Rattle.reached.proofs.laws.Recall.{noted_none, noted_new}
use Rattle.reached.proofs.recall.note.Goals as goal

pub returns-in_default : goal.returns-in_default
returns-in_default c = noted_none c.args.recall c.requires.1 c.requires.2 c.in_default.ensures

pub remember-requires : goal.remember-requires
remember-requires c =
    let wide = c.requires.0.wide in
    let last = c.in-Some.ensures.1.last.within c.in-Some.ensures.0 in
    (c.requires.1, omega (arith, wide.within, columns_few c.args.g wide.floats), omega (arith, wide.few, c.in-Some.ensures.0), omega (arith, wide.few, last))

pub returns : goal.returns
returns c =
    noted_new c.requires.0.wide.few c.requires.1 c.requires.2 c.in-Some.ensures.1 c.in-Some.ensures.0 c.remember.ensures
