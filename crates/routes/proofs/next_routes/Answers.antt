-- `next_routes` fills both tables, reads the routes from them, and keeps where they come from.
use native.Mathlib.Omega.{arith}
use lib.ListN.{length-set}
use Rattle.routes.specs.laws.Next.{next_halves, next_halved, onward_next}
use Rattle.routes.proofs.next_routes.Goals as goal

pub both_steps-requires : goal.both_steps-requires
both_steps-requires c =
    next_halved c.requires c.galley_in-g.ensures c.fill_folios.ensures

pub returns : goal.returns
returns c =
    onward_next c.requires c.galley_in-g.ensures c.fill_folios.ensures _ c.both_steps.ensures

pub fill_folios-requires : goal.fill_folios-requires
fill_folios-requires c = next_halves c.requires c.galley_in-g.ensures

pub bounds-from-k-2 : goal.bounds-from-k-2
bounds-from-k-2 c = simp length-set (omega (arith, c.requires.few, c.requires.words))
