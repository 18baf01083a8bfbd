-- `write_chapter` meets its contract: the table is filled from the beginning on, and the walk back from the side counts and writes the
-- best list that closes there.
use native.Mathlib.Omega.{arith}
use Rattle.course.specs.laws.Chapter.{make_room, make_walkable, make_small, make_writable, make_written}
use Rattle.course.proofs.chapter.write_chapter.Goals as goal

pub count_pages-p-requires : goal.count_pages-p-requires
count_pages-p-requires c =
    rw c.closing_stop-last.ensures (make_walkable c.requires _ c.fill_chapter.ensures)

pub write_pages-requires : goal.write_pages-requires
write_pages-requires c =
    rw c.closing_stop-last.ensures
    (make_writable c.requires _ c.fill_chapter.ensures _
    (rw c.closing_stop-last.ensures at c.count_pages-p.ensures))

pub overflow_mul-result : goal.overflow_mul-result
overflow_mul-result c =
    let few =
    make_small c.requires _ c.fill_chapter.ensures _
    (rw c.closing_stop-last.ensures at c.count_pages-p.ensures) in
    rw c.page_words.ensures.1 (omega (arith, few))

pub returns : goal.returns
returns c =
    rw c.page_words.ensures.1
    (make_written c.requires _ c.fill_chapter.ensures _
    (rw c.closing_stop-last.ensures at c.count_pages-p.ensures) _
    (rw c.closing_stop-last.ensures at (c.write_pages.ensures c.args.s.now)))

pub fill_chapter-requires : goal.fill_chapter-requires
fill_chapter-requires c = make_room c.requires
