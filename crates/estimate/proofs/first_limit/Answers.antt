-- `first_limit` meets its contract: no more is placed at the origin than there is.
use Rattle.std.proofs.Common.{arith}
use Rattle.candidates.proofs.laws.Columns.{within_at}
use Rattle.estimate.proofs.first_limit.Goals as goal

pub set_pages-requires : goal.set_pages-requires
set_pages-requires c =
    record {
      sound = c.requires.sound;
      inside = rw c.counts_at-at.ensures (within_at c.args.g _ _ c.requires.line c.requires.column);
      costs = omega arith;
      turns = omega arith;
    }
