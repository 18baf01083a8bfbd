-- `all_weighed` meets its contract: the chapters counted and those left come to all.
use native.Mathlib.Omega.{arith}
use Rattle.course.specs.laws.Weighed.{weighing_at, weighing_next, weighing_done}
use Rattle.course.proofs.weighed.all_weighed.Goals as goal

pub bytes_of-requires : goal.bytes_of-requires
bytes_of-requires c =
    let at = weighing_at c.requires c.loop-k-test.true in
    record { numbered = at.numbered; within = at.within }

pub chapter_weighed-sum-requires : goal.chapter_weighed-sum-requires
chapter_weighed-sum-requires c =
    let at = weighing_at c.requires c.loop-k-test.true in
    rw c.bytes_of.ensures (at.galley, at.reads)

pub overflow_add-sum : goal.overflow_add-sum
overflow_add-sum c =
    let at = weighing_at c.requires c.loop-k-test.true in
    omega (arith, c.chapter_weighed-sum.ensures.few, c.loop-k.invariant.few, at.numbered.within, at.numbered.few)

pub loop-k-preserved : goal.loop-k-preserved
loop-k-preserved c = weighing_next c.requires c.loop-k-test.true c.loop-k.invariant (rw c.bytes_of.ensures at c.chapter_weighed-sum.ensures)

pub returns : goal.returns
returns c = weighing_done c.requires (omega (arith, c.loop-k-test.false)) c.loop-k.invariant
