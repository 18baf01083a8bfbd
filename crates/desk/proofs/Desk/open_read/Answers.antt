-- `open_read` meets its contract: a list that the marking accepts, of at most 64 pages, fits a desk.
use Rattle.std.proofs.Common.{sym, ◌∙◌, le-leb, arith}
use Rattle.desk.proofs.laws.Opening.{open_short}
use Rattle.desk.proofs.Desk.open_read.Goals as goal

pub of-requires : goal.of-requires
of-requires c =
    let is = sym c.mark.ensures ∙ c.in-Ok.is in
    open_short c.args.galley.now c.args.list.now (rw is (le-leb c.in-Ok.n.pages 64 (omega arith)))
