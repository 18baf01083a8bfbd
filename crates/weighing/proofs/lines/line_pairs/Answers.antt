-- `line_pairs` meets its contract. The invariant: the pairs that end before line i are counted, for what stands beside the lines and for
-- all else that the tally says.
use native.Mathlib.Omega.{arith}
use Rattle.weighing.proofs.laws.Lines.{tallied_start, tallied_next, tallied_end}
use Rattle.weighing.proofs.lines.line_pairs.Goals as goal

pub loop-i-preserved : goal.loop-i-preserved
loop-i-preserved c =
    let pre = c.requires in
    tallied_next _ _ _ _ _ c.loop-i.invariant (omega arith) pre.few _ c.first_below-low.ensures
    c.with_line-tally.ensures

pub returns : goal.returns
returns c = tallied_end _ _ _ _ _ c.loop-i.invariant (omega (arith, c.loop-i-test.false)) c.requires.few

pub loop-i-init : goal.loop-i-init
loop-i-init c = tallied_start _ _ _ _ _ _ c.requires.from
