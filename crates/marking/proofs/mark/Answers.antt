-- `mark` meets its contract: a galley that reads is sound, and each case of the reading is the clause of `mark_read` for it.
use Rattle.std.proofs.Common.{sym}
use Rattle.std.proofs.lemmas.Result.{err_from_is_err_and}
use Rattle.galley.proofs.laws.Sound.{sound}
use Rattle.marking.specs.Mark.{mark_read, mark_of}
use Rattle.marking.proofs.mark.Goals as goal

pub returns-in_err-g : goal.returns-in_err-g
unfolding mark_of mark_read
returns-in_err-g c =
    let p = err_from_is_err_and c.from_residual.result c.from_residual.ensures.1 in
    rw (p.1, p.2, ← c.in_err-g.ensures)

pub mark_read-requires : goal.mark_read-requires
mark_read-requires c = sound c.args.galley.now _ (sym c.in_ok-g.ensures)

pub returns : goal.returns
unfolding mark_of mark_read
returns c = rw (← c.in_ok-g.ensures) c.mark_read.ensures
