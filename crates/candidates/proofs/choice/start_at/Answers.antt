-- `start_at` meets its contract: each way is a clause of the definition, and a small cost has room for white.
use native.Mathlib.Omega.{arith}
use Rattle.candidates.specs.Better.{start_at}
use Rattle.candidates.proofs.choice.start_at.Goals as goal

pub returns-in_err-x : goal.returns-in_err-x
unfolding start_at
returns-in_err-x c = rw c.in_err-x.was c.from_residual.ensures

pub overflow_add-result : goal.overflow_add-result
overflow_add-result c = omega (arith, c.requires _ _ c.in_ok-x.was)

pub returns : goal.returns
unfolding start_at
returns c = rw (c.in_ok-x.was, c.from.ensures)
