-- `make_chapter` meets its contract: marking the words that were written gives the counts of their list.
use borrow.Author.Rules.{rules}
use lib.Seq.{length-take-le}
use mathlib.Core.Path.{sym}
use Rattle.course.specs.laws.Chapter.{make_marked}
use Rattle.course.proofs.chapter.make_chapter.Goals as goal

pub slice_bounds-mark_read-end-2 : goal.slice_bounds-mark_read-end-2
slice_bounds-mark_read-end-2 c = sym (length-take-le _ _ (search rules))

pub returns : goal.returns
returns c = make_marked c.requires c.write_chapter-words.ensures _ c.mark_read.ensures
