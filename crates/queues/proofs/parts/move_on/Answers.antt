-- `move_on` meets its contract: each queue is moved on to its part, and the law of both says that what is stored for one leaves the
-- other.
use native.Mathlib.Omega.{arith}
use Rattle.queues.proofs.laws.Parts.{parts_moved}
use Rattle.queues.proofs.parts.move_on.Goals as goal

pub advance-rest-requires : goal.advance-rest-requires
advance-rest-requires c =
    let pre = c.requires in
    record {
      stands = λ a l. pre.stands a (omega (arith, pre.high));
      costs = λ a l. pre.costs a (omega (arith, pre.high));
      summed = omega (arith, pre.high, pre.summed);
      based = pre.held.rest.based;
      order = pre.held.rest.order;
      short = pre.held.rest.short;
      start = pre.rises.high;
      room = omega (arith, pre.high, pre.few, pre.room, pre.held.second);
    }

pub returns : goal.returns
returns c =
    let a = c.args in
    parts_moved a.work.now a.sums.now a.words.now _ _ a.source a.parts a.from a.to _ _ c.requires
    c.advance-full.ensures (rw c.max-start.ensures at c.advance-rest.ensures)
