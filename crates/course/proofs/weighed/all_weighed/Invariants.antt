-- `all_weighed` meets its contract: the chapters counted and those left come to all.
use Rattle.chapters.specs.Book.{chapters_in, book_of}
use Rattle.course.specs.Weighed.{Weighing}
use Rattle.course.proofs.weighed.all_weighed.Given as goal

abbrev pub invariant-loop-k : goal.invariant-loop-k
invariant-loop-k l = Weighing (chapters_in (book_of l.chapters.galleys.now l.chapters.lengths.now)) l.k l.sum
