-- `pad` meets its contract. The invariant: the first `i` bytes are copied, the others are zeros.
use lib.ListN.{length}
use Rattle.layouts.specs.Words.{Copied}
use Rattle.layouts.proofs.names.pad.Given as goal

abbrev pub invariant-loop-i : goal.invariant-loop-i
invariant-loop-i l = Copied l.name (length l.name) l.initial.all l.all l.i
