-- `bare_page` meets its contract: its separations are few and small.
use Rattle.laying.specs.Heights.{bare_page}
use Rattle.laying.proofs.bare_page.Goals as goal

pub returns : goal.returns
unfolding bare_page
returns c = rw (c.separated-heights.ensures, c.kinds_on-kinds.ensures.0)
