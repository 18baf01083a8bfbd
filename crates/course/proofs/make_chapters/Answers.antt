-- `make_chapters` meets its contract: each turn makes one chapter more, and with the chapters left they come to what all do.
use native.Mathlib.Omega.{arith}
use mathlib.Core.Path.{refl, ◌∙◌}
use Rattle.course.specs.laws.Room.{course_first, course_at, course_chapter, course_next, course_done}
use Rattle.course.proofs.make_chapters.Goals as goal

pub loop-k-init : goal.loop-k-init
loop-k-init c = (course_first c.requires, refl)

pub bytes_of-chapter-requires : goal.bytes_of-chapter-requires
bytes_of-chapter-requires c =
    let at = course_at c.requires c.loop-k-test.true in
    record { numbered = at.numbered; within = at.within }

pub next_chapter-sums-requires : goal.next_chapter-sums-requires
next_chapter-sums-requires c =
    let st = c.loop-k in
    rw c.bytes_of-chapter.ensures (course_chapter c.requires c.loop-k-test.true st.invariant.0 _ st.invariant.1)

pub loop-k-preserved : goal.loop-k-preserved
loop-k-preserved c =
    let st = c.loop-k in
    let made = rw c.bytes_of-chapter.ensures at c.next_chapter-sums.ensures in
    (course_next c.requires c.loop-k-test.true st.invariant.0 made, made.lent ∙ st.invariant.1)

pub returns : goal.returns
returns c = course_done c.requires c.loop-k.invariant.0 (omega (arith, c.loop-k-test.false)) c.loop-k.invariant.1
