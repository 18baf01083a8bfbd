-- `waiting_floats` meets its contract. The invariant: those found so far and those that the walk from here on finds are all that
-- wait; each way that a turn ends is one law of laws/Waiting.
use Rattle.std.proofs.Common.{◌≡◌, ◌+◌}
use Rattle.galley.specs.Model.{floats_of}
use Rattle.rules.specs.Waiting.{waits}
use Rattle.rules.proofs.waiting.waiting_floats.Given as goal

abbrev pub invariant-loop-found : goal.invariant-loop-found
invariant-loop-found l =
    l.found + waits (floats_of l.s l.floats) l.i (l.j + l.found) ≡ waits (floats_of l.s l.floats) l.i l.j
