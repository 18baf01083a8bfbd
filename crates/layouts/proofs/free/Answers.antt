-- `free` meets its contract. The invariant: the layouts before number `at` are freed of the name, the others are as they were.
use borrow.Author.Rules.{rules}
use Rattle.layouts.specs.laws.Layouts.{free_starts, free_goes_on, free_ends}
use Rattle.layouts.proofs.free.Goals as goal

pub loop-at-init : goal.loop-at-init
loop-at-init c = free_starts _ _ (search rules)

pub loop-at-preserved : goal.loop-at-preserved
loop-at-preserved c = rw c.drop_name.ensures (free_goes_on _ _ c.loop-at.invariant c.loop-at-test.true _)

pub returns : goal.returns
returns c = free_ends _ _ c.loop-at.invariant c.loop-at-test.false
