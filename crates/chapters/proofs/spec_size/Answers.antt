-- `spec_size` meets its contract: its test is that of the definition.
use borrow.Author.Tests.{eq-eqb, ne_eqb}
use Rattle.chapters.proofs.spec_size.Goals as goal

pub returns-then-edition-eq2 : goal.returns-then-edition-eq2
returns-then-edition-eq2 c = rw (eq-eqb _ _ c.if-edition-eq2.true)

pub returns-else-edition-eq2 : goal.returns-else-edition-eq2
returns-else-edition-eq2 c = rw (ne_eqb _ _ c.if-edition-eq2.false)
