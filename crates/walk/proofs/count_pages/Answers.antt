-- `count_pages` counts the pages on the way back. The invariant says that the count from here on is the whole count.
use native.Mathlib.Omega.{arith}
use mathlib.Core.Path.{◌≡◌, sym, ◌∙◌}
use Rattle.walk.specs.Traceable.{blocks_in}
use Rattle.walk.specs.laws.Walk.{counting_next, counting_done, counting_most}
use Rattle.walk.proofs.count_pages.Goals as goal

pub returns-then-at_origin : goal.returns-then-at_origin
returns-then-at_origin c = counting_done c.loop-p.invariant (sym c.at_origin.ensures ∙ c.if-at_origin.true)

pub loop-p-preserved : goal.loop-p-preserved
loop-p-preserved c =
    rw c.page_before-at.ensures
    (counting_next c.loop-p.invariant c.requires.table c.loop-p-test.true
    (sym c.at_origin.ensures ∙ c.if-at_origin.false))

pub returns : goal.returns
returns c =
    let all : blocks_in c.args.g ≡ c.loop-p.p = omega (arith, c.loop-p-test.false, c.loop-p.invariant.few) in
    all ∙ counting_most c.loop-p.invariant c.loop-p-test.false
