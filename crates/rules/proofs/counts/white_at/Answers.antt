-- `white_at` meets its contract: its test is that of `white_at`.
use Rattle.std.proofs.Common.{arith, refl}
use Rattle.rules.specs.Sums.{white_at}
use Rattle.rules.proofs.counts.white_at.Goals as goal

pub returns-then-last : goal.returns-then-last
unfolding white_at
returns-then-last c = rw c.if-last.true (refl, omega arith)

pub returns-else-last : goal.returns-else-last
unfolding white_at
returns-else-last c = rw (c.if-last.false, c.saturating_sub.ensures) (refl, omega arith)
