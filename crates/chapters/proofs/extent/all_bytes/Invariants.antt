-- `all_bytes` meets its contract: the sum so far is where chapter i begins, and each length adds less than 2³².
use Prim.Native.Nat.{◌*◌, ◌≤◌}
use mathlib.Core.Path.{◌≡◌}
use lib.ListN.{length}
use Rattle.chapters.specs.Book.{chapter_start}
use Rattle.chapters.proofs.extent.all_bytes.Given as goal

abbrev pub invariant-loop-i : goal.invariant-loop-i
invariant-loop-i l = (l.i ≤ length l.lengths) × (l.sum ≡ chapter_start l.lengths l.i) × (l.sum ≤ l.i * 4294967295)
