-- `pairs_beside` meets its contract: what a row says is so, and a tally that is kept says what was counted.
use Rattle.weighing.proofs.known.pairs_beside.Goals as goal

pub returns : goal.returns
returns c =
    let counted = c.line_pairs-tally.ensures in
    (rw c.from-2.ensures counted.0, c.keep.ensures _ _ _ _ c.requires.1 counted.1)
