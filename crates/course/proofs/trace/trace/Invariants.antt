-- `trace` meets its contract: each turn follows one chapter back, and the folios from chapter k on are those of the whole way.
use Prim.Native.Nat.{◌+◌}
use mathlib.Core.Path.{◌≡◌}
use lib.ListN.{length, drop}
use Rattle.course.specs.Trace.{Following}
use Rattle.course.proofs.trace.trace.Given as goal

abbrev pub invariant-loop-k : goal.invariant-loop-k
invariant-loop-k l =
    Following l.from l.chapters l.last (drop (l.chapters + 1) l.initial.folios) l.folios l.k × (length l.folios ≡ length l.initial.folios)
