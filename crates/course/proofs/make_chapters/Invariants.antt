-- `make_chapters` meets its contract: each turn makes one chapter more, and with the chapters left they come to what all do.
use mathlib.Core.Path.{◌≡◌}
use lib.ListN.{length}
use Rattle.chapters.specs.Book.{chapters_in, book_of}
use Rattle.course.specs.Course.{Making}
use Rattle.course.proofs.make_chapters.Given as goal

abbrev pub invariant-loop-k : goal.invariant-loop-k
invariant-loop-k l =
    Making (chapters_in (book_of l.chapters.galleys.now l.chapters.lengths.now)) l.folios l.initial.pages l.k l.sums l.pages × (length l.work ≡ length l.initial.work)
