-- `is_laid` meets its contract: its tests are those of `is_laid`.
use borrow.Author.Tests.{le-leb, lt-leb}
use Rattle.laying.specs.Heights.{is_laid}
use Rattle.laying.proofs.is_laid.Goals as goal

pub returns-then-on-v : goal.returns-then-on-v
unfolding is_laid
returns-then-on-v c = rw (lt-leb _ _ c.if-on-v.true)

pub returns-then-on-v-2 : goal.returns-then-on-v-2
unfolding is_laid
returns-then-on-v-2 c = rw (le-leb _ _ c.if-on-v.false, lt-leb _ _ c.if-on-v-2.true)

pub returns : goal.returns
unfolding is_laid
returns c = rw (le-leb _ _ c.if-on-v.false, le-leb _ _ c.if-on-v-2.false)
