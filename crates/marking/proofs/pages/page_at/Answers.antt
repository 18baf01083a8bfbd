-- `page_at` meets its contract: its test is that of `counts_in`, and a third word is there where there are tables.
use Rattle.std.proofs.Common.{eq-eqb, ne_eqb}
use Rattle.blocks.specs.Counts.{counts_in}
use Rattle.marking.proofs.pages.page_at.Goals as goal

pub returns-then-g-eq0 : goal.returns-then-g-eq0
unfolding counts_in
returns-then-g-eq0 c = rw (eq-eqb _ _ c.if-g-eq0.true)

pub returns-else-g-eq0 : goal.returns-else-g-eq0
unfolding counts_in
returns-else-g-eq0 c = rw (ne_eqb _ _ c.if-g-eq0.false)
