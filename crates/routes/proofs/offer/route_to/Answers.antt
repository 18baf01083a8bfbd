-- `route_to` takes the preferred of both offers, where the next folio occurs.
use Rattle.routes.specs.laws.Offer.{arriving_comparing, arrived_none, arrived_best}
use Rattle.routes.proofs.offer.route_to.Goals as goal

pub returns-then-g-next : goal.returns-then-g-next
returns-then-g-next c = arrived_none c.if-g-next.true

pub preferred-requires : goal.preferred-requires
preferred-requires c =
    arriving_comparing c.requires c.args.first _ _ c.offered-a.ensures.is c.offered-b.ensures.is

pub returns : goal.returns
returns c =
    arrived_best _ _ c.if-g-next.false c.offered-a.ensures c.offered-b.ensures c.preferred.ensures
