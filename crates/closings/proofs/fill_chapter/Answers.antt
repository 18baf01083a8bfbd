-- `fill_chapter` fills the table from the beginning on: there is a column in which to begin.
use native.Mathlib.Omega.{arith}
use Rattle.walk.specs.laws.Walk.{columns_in_some}
use Rattle.closings.proofs.fill_chapter.Goals as goal

pub fill-requires : goal.fill-requires
fill-requires c =
    record { sound = c.requires.sound; cheap = omega arith; limited = omega arith; line = omega arith; origin = columns_in_some c.args.g; room = c.requires.room }
