-- `whitened` meets its contract: the cost of a start, where there is one, has what the page lacks in place of the height up to its line.
use native.Mathlib.Omega.{arith}
use Rattle.queues.specs.Parts.{whitened_of}
use Rattle.queues.proofs.parts.whitened.Goals as goal

pub returns-in_err-x : goal.returns-in_err-x
unfolding whitened_of
returns-in_err-x c = rw c.in_err-x.was c.from_residual.ensures

pub overflow_add-result : goal.overflow_add-result
overflow_add-result c = omega (arith, c.requires.small _ _ c.in_ok-x.was)

pub overflow_sub-result : goal.overflow_sub-result
overflow_sub-result c = omega (arith, c.requires.enough _ _ c.in_ok-x.was)

pub returns : goal.returns
unfolding whitened_of
returns c = rw (c.in_ok-x.was, c.from.ensures, c.from-2.ensures)
