-- `advance` meets its contract: the new lines are fed to the queue, and entries before the window are dropped from its
-- front.
use mathlib.Core.Path.{refl}
use Rattle.queues.specs.Queue.{added_of, lines_in, tailed}
use Rattle.queues.proofs.laws.Held.{held_dropped}
use Rattle.queues.proofs.queue.advance.Goals as goal

pub returns : goal.returns
returns c =
    let a = c.args in
    let fed = c.feed-tail in
    let passed = c.drop_passed-head.ensures in
    record {
      base = refl;
      lacks = refl;
      beside = fed.ensures.beside;
      held = λ before l h.
          held_dropped (lines_in a.work.now a.source) (added_of a.sums.now a.queue.lacks) _
          (tailed a.queue fed.result) c.drop_passed-head.result before a.low a.high l passed (fed.ensures.held before h);
      fresh = passed.kept;
    }
