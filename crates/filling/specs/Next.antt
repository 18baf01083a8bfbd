-- What the functions of the filling ask for: what is filled, and what comes next; and what they leave.
use Rattle.std.specs.Prelude.{ℕ, suc, ◌+◌, ◌*◌, ◌≤◌, ◌<◌, ◌≡◌, false, List, length, Option, Some, None}
use Rattle.galley.specs.declared.Galley.{Galley}
use Rattle.galley.specs.Sound.{Sound}
use Rattle.blocks.specs.declared.Counts.{Counts}
use Rattle.rules.specs.declared.waiting.Waiting.{Waiting}
use Rattle.places.specs.declared.Origin.{Origin}
use Rattle.places.specs.Address.{words_needed}
use Rattle.places.specs.Entry.{boundless}
use Rattle.candidates.specs.Choice.{Candidate}
use Rattle.candidates.specs.Read.{side_of, search_of, columns_in}
use Rattle.reached.specs.Look.{Quiet, Found}
use Rattle.passes.specs.Sweep.{Lent, Scratch, Summed, Known}
use Rattle.candidates.specs.Cells.{Blank, Clean}
use Rattle.entries.specs.declared.side.Task.{Task}
use Rattle.entries.specs.declared.side.End.{End}
use Rattle.pricing.specs.declared.Floats.{Floats}
use Rattle.pricing.specs.Stop.{stop_from}
use Rattle.entries.specs.Next.{Next, Waits}

-- The end of a page on side 0 of a place, from what waits there and what the floats placed say: whether its leaf ends with it is not told.
abbrev pub end_from : List ℕ → Galley → Counts → ℕ → Floats → Waiting → End
end_from bytes g at column floats waiting =
    record {
      at = at;
      column = column;
      side = 0;
      turns = false;
      waiting = waiting.figures + waiting.tables;
      stop = stop_from bytes g at.lines floats;
    }

-- Column j comes next.
pub record ColumnNext (bytes : List ℕ) (task : Task) (w sums words : List ℕ) (j : ℕ) : Type 0 where
  pub next : Next bytes task w 0 j
  pub summed : Summed bytes task.galley sums
  pub scratch : Scratch words

-- No line of column j from the origin's on and before r has a start in an earlier column, nor is it the origin's.
pub record Begun (task : Task) (w : List ℕ) (j r : ℕ) : Type 0 where
  pub found : Found task.galley w j task.origin.place.line r
  pub later : (i : ℕ) → i < r → (i ≡ task.origin.place.line) × (j ≡ task.origin.place.column) → ⊥

-- Its starts in earlier columns are known, and a place without one is empty.
pub record Gathered (bytes : List ℕ) (task : Task) (w sums words : List ℕ) (j : ℕ) : Type 0 where
  pub column : ColumnNext bytes task w sums words j
  pub known : Known bytes task.galley w j 0
  pub clean : Clean task.galley w j

-- The first of its lines that a page may reach is one of the galley's.
pub record LastNext (bytes : List ℕ) (task : Task) (w sums words : List ℕ) (j first : ℕ) : Type 0 where
  pub gathered : Gathered bytes task w sums words j
  pub begun : Begun task w j first
  pub within : first ≤ task.galley.text.count

-- No line of column j from `from` on and before `to` has a start in an earlier column, nor is it the origin's, and no page goes to one of
-- them from a line before `from` in the column itself.
pub record Still (bytes : List ℕ) (task : Task) (w : List ℕ) (j from to : ℕ) : Type 0 where
  pub lent : Lent bytes task.galley w j
  pub within : to ≤ suc task.galley.text.count
  pub quiet : Quiet task.galley w j task.galley.spec.sides from to
  pub waits : Waits bytes task.galley w j (2 * from)
  pub clean : Clean task.galley w j
  pub later : (i : ℕ) → from ≤ i → i < to → (i ≡ task.origin.place.line) × (j ≡ task.origin.place.column) → ⊥
  pub above : (i a c x : ℕ) → from ≤ i → i < to → a < from → c < task.galley.spec.sides
      → Candidate (search_of bytes task.galley w i j (side_of task.galley c)) a j x → ⊥

-- The line, or one past the last line where there is none.
abbrev pub line_or : Galley → Option ℕ → ℕ
line_or g (Some r) = r
line_or g None = g.text.count + 1

-- r is no earlier than `last`; where it is past the last line, `last` is before line `low`, and no line from that on is reached.
pub record Onward (g : Galley) (w : List ℕ) (j low last r : ℕ) : Type 0 where
  pub since : last ≤ r
  pub none : g.text.count < r → (last < low) × Quiet g w j g.spec.sides low (suc g.text.count)

-- A galley that was read, an origin at one of its lines and columns at which little was paid, and a work area as long as document 01 asks.
pub record Fillable (bytes : List ℕ) (g : Galley) (from : Origin) (w : List ℕ) : Type 0 where
  pub sound : Sound bytes g
  pub cheap : from.cost ≤ boundless
  pub limited : from.limit ≤ boundless
  pub line : from.place.line ≤ g.text.count
  pub origin : from.place.column < columns_in g
  pub room : words_needed g.text.count (columns_in g) ≤ length w

-- The table comes next: every column is empty, the sums of the lines are known, and there is room for four queues.
pub record TableNext (bytes : List ℕ) (task : Task) (w sums words : List ℕ) : Type 0 where
  pub fillable : Fillable bytes task.galley task.origin w
  pub blank : (b : ℕ) → b < columns_in task.galley → Blank task.galley w b
  pub summed : Summed bytes task.galley sums
  pub scratch : Scratch words
