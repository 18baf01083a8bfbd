-- A column filled, where the columns before it that are reached stand in a ring.
use Rattle.std.specs.Prelude.{ℕ, suc, ◌+◌, ◌<◌, ◌≡◌, List, length}
use Rattle.galley.specs.Model.{model_of}
use Rattle.candidates.specs.Cells.{Blank}
use Rattle.reached.specs.declared.recall.Recall.{Recall}
use Rattle.reached.specs.Look.{Recalled}
use Rattle.entries.specs.declared.side.Task.{Task}
use Rattle.filling.specs.Fill.{fill_column}
use Rattle.filling.specs.Next.{ColumnNext}

-- Column j comes next, which is empty, and those before it that are reached are in the ring, from some column on.
pub record ColumnTurn (bytes : List ℕ) (task : Task) (w sums words seen : List ℕ) (j : ℕ) (recall : Recall) : Type 0 where
  pub column : ColumnNext bytes task w sums words j
  pub blank : Blank task.galley w j
  pub recalled : Recalled task.galley w seen task.origin.place.line recall.since j
  pub head : recall.head < length seen

-- It is filled, and is in the ring if it is reached.
pub record ColumnFilled (bytes : List ℕ) (task : Task) (w v seen : List ℕ) (j : ℕ) (r : Recall) : Type 0 where
  pub filled : v ≡ fill_column (model_of bytes task.galley) task.origin j (suc task.galley.text.count) 0 w
  pub recalled : Recalled task.galley v seen task.origin.place.line r.since (j + 1)
  pub head : r.head < length seen
