-- `guess_of` meets its contract: weights and leaves are few, so that the product keeps within a word.
use Rattle.std.proofs.Common.{arith}
use Rattle.estimate.specs.laws.Greedy.{spare_small}
use Rattle.estimate.proofs.guess_of.Goals as goal

pub overflow_mul-limit : goal.overflow_mul-limit
overflow_mul-limit c =
    omega (arith, spare_small c.args.spec.beta c.args.pages.turned c.requires.0.betas c.requires.1.turns)
