-- `both_steps` reads the routes from both halves of the work area.
use mathlib.Core.Path.{refl, sym}
use lib.Seq.{length-take-le}
use Rattle.routes.specs.laws.Tables.{rest_arriving, rest_arrived}
use Rattle.routes.proofs.tables.both_steps.Goals as goal

pub returns : goal.returns
returns c =
    let a = c.args in
    record {
      one = rest_arrived a.half a.work.now refl c.route_to-one.ensures;
      two = rest_arrived a.half a.work.now refl c.route_to-two.ensures;
    }

pub slice_bounds-route_to-end : goal.slice_bounds-route_to-end
slice_bounds-route_to-end c = sym (length-take-le _ _ c.requires.within)

pub route_to-one-requires : goal.route_to-one-requires
route_to-one-requires c = rest_arriving c.args.half c.args.work.now refl c.requires.one

pub slice_bounds-route_to-end-3 : goal.slice_bounds-route_to-end-3
slice_bounds-route_to-end-3 c = sym (length-take-le _ _ c.requires.within)

pub route_to-two-requires : goal.route_to-two-requires
route_to-two-requires c = rest_arriving c.args.half c.args.work.now refl c.requires.two
