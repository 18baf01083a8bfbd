-- `judge_pages` meets its contract. The outer invariant is the run over the pages so far (laws/Run), the inner one the page under
-- way with the blocks that it has so far (laws/Page); each way of leaving a page is one law of laws/Page.
use Rattle.std.proofs.Common.{unwrap_or}
use Rattle.laying.specs.laws.Next.{left}
use Rattle.marking.specs.laws.Page.{Underway}
use Rattle.marking.specs.laws.Run.{Run}
use Rattle.marking.proofs.pages.judge_pages.Given as goal

abbrev pub invariant-loop-laid : goal.invariant-loop-laid
invariant-loop-laid l = Underway l.s l.g l.list (unwrap_or l.last 0) l.done l.at l.waiting l.sums l.v l.laid

abbrev pub decreases-loop-laid : goal.decreases-loop-laid
decreases-loop-laid l = left l.laid.on l.v

abbrev pub invariant-loop-done : goal.invariant-loop-done
invariant-loop-done l = Run l.s l.g l.list (unwrap_or l.last 0) l.done l.at l.waiting l.sums
