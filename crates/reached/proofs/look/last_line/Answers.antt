-- `last_line` meets its contract: a line of the column stands there on every side that occurs.
use Rattle.std.proofs.Common.{arith}
use Rattle.reached.proofs.laws.Look.{room_small, room_stands}
use Rattle.reached.proofs.look.last_line.Goals as goal

pub place_of-place-requires : goal.place_of-place-requires
place_of-place-requires c = room_small c.requires.0 _ (omega (arith, c.requires.1.0))

pub reached-requires : goal.reached-requires
reached-requires c = rw c.place_of-place.ensures (room_stands c.requires.0 _ (omega (arith, c.requires.1.0)))
