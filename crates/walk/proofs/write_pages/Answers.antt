-- `write_pages` writes the pages on the way back. The invariant says that the writing from here on is the whole writing, and
-- that there is room for the pages left.
use Rattle.walk.specs.laws.Walk.{writing_next, writing_done}
use Rattle.walk.proofs.write_pages.Goals as goal

pub loop-r-preserved : goal.loop-r-preserved
loop-r-preserved c =
    rw (c.page_before-at.ensures, c.write_page.ensures, c.page_words-wide.ensures.1)
    (writing_next c.loop-r.invariant c.requires.walk.table c.loop-r-test.true)

pub returns : goal.returns
returns c = writing_done c.loop-r.invariant c.loop-r-test.false
