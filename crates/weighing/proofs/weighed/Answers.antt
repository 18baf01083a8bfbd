-- `weighed` meets its contract: the local array is as long as 4,000 lines ask for.
use borrow.Author.Rules.{rules}
use Rattle.weighing.proofs.weighed.Goals as goal

pub all_pairs-requires : goal.all_pairs-requires
all_pairs-requires c = (
  record {
    sound = c.requires.0;
    placed = c.requires.1;
    summed = record { rows = c.gather.ensures; room = search rules };
  },
  c.nothing-known.ensures _ _ _ _,
)
