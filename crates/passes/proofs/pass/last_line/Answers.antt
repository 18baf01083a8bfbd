-- `last_line` meets its contract: where the column is not the last nothing is left, else the lines and the floats alone are weighed.
use native.Mathlib.Omega.{arith}
use Rattle.candidates.proofs.laws.Columns.{columns_few}
use Rattle.passes.proofs.laws.Lending.{lent_wide}
use Rattle.passes.proofs.laws.Sweeping.{last_taken, last_stand, last_ended, last_done}
use Rattle.passes.proofs.pass.last_line.Goals as goal

pub overflow_add-pass : goal.overflow_add-pass
overflow_add-pass c =
    let wide = lent_wide c.requires.lent in
    omega (arith, wide.within, columns_few c.args.g wide.floats)

pub returns-then-pass-columns_of : goal.returns-then-pass-columns_of
returns-then-pass-columns_of c =
    last_taken c.requires (rw (← c.columns_of.ensures) c.if-pass-columns_of.true)

pub last_lines-lines-requires : goal.last_lines-lines-requires
last_lines-lines-requires c =
    rw (c.load-load.ensures, c.floor_of.ensures c.args.s.now, c.side_before-side.ensures)
    (last_stand c.requires (omega (arith, c.if-pass-columns_of.false, c.columns_of.ensures)))

pub improve-requires : goal.improve-requires
improve-requires c =
    rw (c.floor_of.ensures c.args.s.now)
    (last_ended c.requires (omega (arith, c.if-pass-columns_of.false, c.columns_of.ensures)))

pub returns : goal.returns
returns c =
    last_done c.requires (omega (arith, c.if-pass-columns_of.false, c.columns_of.ensures)) c.last_lines-lines.result
    (rw (c.load-load.ensures, c.floor_of.ensures c.args.s.now, c.side_before-side.ensures) at c.last_lines-lines.ensures) _
    (rw (c.floor_of.ensures c.args.s.now) at c.improve.ensures)
