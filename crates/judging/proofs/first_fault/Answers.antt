-- `first_fault` meets its contract: its two tests are those of `fault_from`.
use Rattle.rules.specs.Parts.{fault_from}
use Rattle.judging.proofs.first_fault.Goals as goal

pub returns-then-not-kept : goal.returns-then-not-kept
unfolding fault_from
returns-then-not-kept c = rw c.if-not-kept.true

pub returns-then-not-next : goal.returns-then-not-next
unfolding fault_from
returns-then-not-next c = rw (c.if-not-kept.false, c.if-not-next.true)

pub returns : goal.returns
unfolding fault_from
returns c = rw (c.if-not-kept.false, c.if-not-next.false)
