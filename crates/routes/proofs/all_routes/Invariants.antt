-- `all_routes` goes on chapter by chapter. The invariant says that the routes before chapter k are those of the theorem.
use Rattle.routes.specs.Next.{Routing}
use Rattle.routes.proofs.all_routes.Given as goal

abbrev pub invariant-loop-k : goal.invariant-loop-k
invariant-loop-k l = Routing l.chapters.galleys.now l.chapters.lengths.now l.book l.initial.work l.work l.k l.routes l.from
