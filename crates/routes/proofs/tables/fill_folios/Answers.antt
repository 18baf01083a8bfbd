-- `fill_folios` fills each half of the work area in turn: what was filled first stays.
use native.Mathlib.Omega.{arith}
use mathlib.Core.Path.{refl, sym}
use lib.Seq.{length-take-le}
use Rattle.routes.specs.laws.Tables.{first_room, second_room, both_filled}
use Rattle.routes.proofs.tables.fill_folios.Goals as goal

pub fill_from-requires : goal.fill_from-requires
fill_from-requires c = (first_room c.requires, omega arith, omega arith)

pub fill_from-requires-2 : goal.fill_from-requires-2
fill_from-requires-2 c = (second_room c.requires c.fill_from.ensures _ refl, omega arith, omega arith)

pub returns : goal.returns
returns c = both_filled c.requires c.fill_from.ensures _ refl _ c.fill_from-2.ensures _ refl

pub slice_bounds-fill_from-end-2 : goal.slice_bounds-fill_from-end-2
slice_bounds-fill_from-end-2 c = sym (length-take-le _ _ (omega (arith, c.requires.long)))
