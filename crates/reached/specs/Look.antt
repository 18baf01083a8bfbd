-- Lines of a column that are not reached: found by looking at them, or known to stand before the origin of the search.
use Rattle.std.specs.Prelude.{ℕ, ◌+◌, ◌≤◌, ◌<◌, ◌≡◌, Option, Some, None, List}
use Rattle.galley.specs.declared.Galley.{Galley}
use Rattle.blocks.specs.declared.Counts.{Counts}
use Rattle.places.specs.declared.Place.{Place}
use Rattle.places.specs.Entry.{least}
use Rattle.places.specs.Table.{table_of}
use Rattle.reached.specs.declared.look.Reach.{Reach}
use Rattle.candidates.specs.Read.{table_in, counts_at}
use Rattle.reached.specs.Ring.{hint_first, hint_last, Present, Absent, Named}

-- No line of column j from `from` on and before `to` is reached on the first n sides.
pub record Quiet (g : Galley) (w : List ℕ) (j n from to : ℕ) : Type 0 where
  pub none : (a c : ℕ) → from ≤ a → a < to → c < n → table_in g w a j c ≡ None

-- A place is not reached on its first n sides.
abbrev pub Missed : List ℕ → ℕ → Place → ℕ → Type 0
Missed w tall place n = (c : ℕ) → c < n → table_of tall w place.line place.column c ≡ None

-- r is at most one past the last line and no earlier than `from`, and no line from `from` on and before r is reached on a side that
-- occurs.
pub record Found (g : Galley) (w : List ℕ) (j from r : ℕ) : Type 0 where
  pub since : from ≤ g.text.count + 1 → from ≤ r
  pub within : r ≤ g.text.count + 1
  pub quiet : Quiet g w j g.spec.sides from r

-- The first line from `from` on that is reached on a side that occurs, or none.
abbrev pub FirstFound : Galley → List ℕ → ℕ → ℕ → Option ℕ → Type 0
FirstFound g w j from None = Quiet g w j g.spec.sides from (g.text.count + 1)
FirstFound g w j from (Some r) = (from ≤ r) × (r ≤ g.text.count) × Quiet g w j g.spec.sides from r

-- Word x holds of column j: none of its lines from `from` on that are before the hint's first or after its last is reached.
pub record Hinted (g : Galley) (w : List ℕ) (j from x : ℕ) : Type 0 where
  pub within : hint_first x ≤ g.text.count
  pub early : Quiet g w j g.spec.sides from (hint_first x)
  pub late : Quiet g w j g.spec.sides (hint_last x + 1) (g.text.count + 1)

-- What `seen` says of column j holds: where no word names it, none of its lines from `from` on is reached on a side that occurs, and where
-- one does, none before or after those that the word leaves.
pub record Told (g : Galley) (w seen : List ℕ) (j from : ℕ) : Type 0 where
  pub none : Absent seen j → Quiet g w j g.spec.sides from (g.text.count + 1)
  pub hinted : (x : ℕ) → Present seen j x → Hinted g w j from x

-- So it is with every column from `since` on and before j, for the lines from `line` on, and no later one is named.
pub record Recalled (g : Galley) (w seen : List ℕ) (line since j : ℕ) : Type 0 where
  pub told : (b : ℕ) → since ≤ b → b < j → Told g w seen b line
  pub named : Named seen j

-- r is no earlier than `from` and, where that is a line, a line too; and no line after r is reached on a side that occurs.
pub record LastFound (g : Galley) (w : List ℕ) (j from r : ℕ) : Type 0 where
  pub since : from ≤ r
  pub within : from ≤ g.text.count → r ≤ g.text.count
  pub quiet : Quiet g w j g.spec.sides (r + 1) (g.text.count + 1)

-- `to` is at most one past the last line, and no line from it on is reached on a side that occurs.
abbrev pub Over : Galley → List ℕ → ℕ → ℕ → Type 0
Over g w j to = (to ≤ g.text.count + 1) × Quiet g w j g.spec.sides to (g.text.count + 1)

-- r has both: the first line from `from` on that is reached, and the last.
pub record Reached (g : Galley) (w : List ℕ) (j from : ℕ) (r : Reach) : Type 0 where
  pub first : Found g w j from r.first
  pub last : LastFound g w j r.first r.last

-- Both, or none where no line from `from` on is reached.
abbrev pub ReachFound : Galley → List ℕ → ℕ → ℕ → Option Reach → Type 0
ReachFound g w j from None = Quiet g w j g.spec.sides from (g.text.count + 1)
ReachFound g w j from (Some r) = (r.first ≤ g.text.count) × Reached g w j from r

-- Whatever is reached in the columns before j has the origin's counts or more in every stream: nothing before the origin is a start.
pub record PastOrigin (g : Galley) (w : List ℕ) (j : ℕ) (origin : Counts) : Type 0 where
  pub line : origin.lines ≤ g.text.count
  pub past : (a b c x : ℕ) (s : Place) → a ≤ g.text.count → b < j → c < g.spec.sides → table_in g w a b c ≡ least x s
      → (origin.lines ≤ a) × (origin.figures ≤ (counts_at g 0 b).figures) × (origin.tables ≤ (counts_at g 0 b).tables)
