-- `preferred` takes the less dear of two offers, and at equal cost that with the later starts: each way out is a case of the definition.
use Rattle.routes.proofs.offer.preferred.Goals as goal

pub later_starts-requires : goal.later_starts-requires
later_starts-requires c =
    rw (c.closing_stop-second.ensures, c.closing_side-2.ensures, c.closing_stop-first.ensures, c.closing_side.ensures)
    (c.requires.walks _ _ c.in-Some.is c.in-Some-b.is)
