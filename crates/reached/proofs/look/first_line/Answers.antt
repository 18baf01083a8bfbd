-- `first_line` meets its contract: a line of the column stands there on every side that occurs.
use Rattle.std.proofs.Common.{arith}
use Rattle.reached.proofs.laws.Look.{room_small, room_stands}
use Rattle.reached.proofs.look.first_line.Goals as goal

pub place_of-place-requires : goal.place_of-place-requires
place_of-place-requires c = room_small c.requires _ (omega arith)

pub reached-requires : goal.reached-requires
reached-requires c = rw c.place_of-place.ensures (room_stands c.requires _ (omega arith))
