-- `best_line` meets its contract. The loop's invariant: of the window's lines before a the entry is the best.
use Prim.Native.Nat.{◌≤◌}
use mathlib.Core.Path.{◌≡◌}
use mathlib.Core.Logic.{◌⊎◌}
use Rattle.places.specs.Best.{Best}
use Rattle.queues.specs.Queue.{lines_of, Lines}
use Rattle.candidates.proofs.last.best_line.Given as goal

abbrev pub invariant-loop-a : goal.invariant-loop-a
invariant-loop-a l =
    ((l.a ≡ l.fn.window.low) ⊎ (l.a ≤ l.fn.window.high))
    × Best (Lines (lines_of l.work l.tall l.column l.side) (λ a. 0) l.fn.window.low l.a l.column) l.best
