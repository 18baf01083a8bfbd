-- `last_stop` is the full place on the last side.
use native.Mathlib.Omega.{arith}
use Rattle.candidates.proofs.laws.Columns.{columns_few}
use Rattle.walk.specs.laws.Walk.{columns_in_some}
use Rattle.walk.proofs.last_stop.Goals as goal

pub overflow_sub-columns_of : goal.overflow_sub-columns_of
overflow_sub-columns_of c = omega (arith, c.columns_of.ensures, columns_in_some c.args.g)

pub place_of-full-requires : goal.place_of-full-requires
place_of-full-requires c =
    record {
      line = c.requires.0.lines;
      column = omega (arith, c.columns_of.ensures, columns_few c.args.g c.requires.0.floats);
    }
