-- `sweep_end` meets its contract: by the test on the column.
use native.Mathlib.Omega.{arith}
use Rattle.candidates.proofs.laws.Columns.{columns_few}
use Rattle.passes.proofs.pass.sweep_end.Goals as goal

pub overflow_add-pass : goal.overflow_add-pass
overflow_add-pass c = omega (arith, c.requires.within, columns_few c.args.g c.requires.floats)
