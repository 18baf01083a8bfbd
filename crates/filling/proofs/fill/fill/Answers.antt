-- `fill` meets its contract: what is cleared is an empty table, and the local arrays are as long as 4,000 lines ask for.
use native.Mathlib.Omega.{arith}
use Rattle.candidates.proofs.laws.Columns.{few_floats, columns_few}
use Rattle.filling.specs.laws.Columns.{cleared_fillable, cleared_blank, cleared_whole}
use borrow.Author.Rules.{rules}
use Rattle.filling.proofs.fill.fill.Goals as goal

pub words_needed-requires : goal.words_needed-requires
words_needed-requires c =
    record {
      lines = omega (arith, c.requires.sound.few_lines, (few_floats c.requires.sound).figures);
      columns = omega (arith, c.columns_of-columns.ensures, columns_few c.args.g (few_floats c.requires.sound));
    }

pub fill_columns-requires : goal.fill_columns-requires
fill_columns-requires c =
    let is = rw (c.words_needed.ensures, c.columns_of-columns.ensures) at c.clear.ensures in
    record {
      fillable = cleared_fillable c.requires _ is;
      blank = cleared_blank c.requires _ is;
      summed = record { rows = c.gather.ensures; room = search rules };
      scratch = search rules;
    }

pub returns : goal.returns
returns c =
    cleared_whole c.requires _
    (rw (c.words_needed.ensures, c.columns_of-columns.ensures) at c.clear.ensures)
    c.fill_columns.ensures
