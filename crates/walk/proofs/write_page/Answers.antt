-- `write_page` meets its contract: two stores are the words of a page without tables, and three those of one with tables.
use Rattle.walk.specs.laws.Page.{page_two, page_three}
use Rattle.walk.proofs.write_page.Goals as goal

pub returns-then-g-gt0 : goal.returns-then-g-gt0
returns-then-g-gt0 c =
    page_three c.requires c.counts_at-at.result c.counts_at-at.ensures c.if-g-gt0.true

pub returns-else-g-gt0 : goal.returns-else-g-gt0
returns-else-g-gt0 c =
    page_two c.requires c.counts_at-at.result c.counts_at-at.ensures c.if-g-gt0.false
