-- What holds at each turn of the filling loops.
use Rattle.std.specs.Prelude.{ℕ, suc, ◌-◌, ◌*◌, ◌≤◌, ◌<◌, ◌≡◌, List, length}
use Rattle.galley.specs.Model.{text_of, model_of}
use Rattle.rules.specs.declared.waiting.Waiting.{Waiting}
use Rattle.rules.specs.Waiting.{Walking}
use Rattle.window.specs.declared.slide.Window.{Window}
use Rattle.window.specs.Slide.{Ends}
use Rattle.candidates.specs.Read.{table_in, columns_in, counts_at}
use Rattle.reached.specs.Look.{Recalled}
use Rattle.candidates.specs.Cells.{Blank, Clean}
use Rattle.entries.specs.declared.side.Task.{Task}
use Rattle.reached.specs.declared.recall.Recall.{Recall}
use Rattle.filling.specs.Fill.{fill_column, fill_columns}
use Rattle.entries.specs.Filled.{Filled}
use Rattle.entries.specs.Next.{plain, Queues, Waits}

-- Column j is filled above line i, and the queues are those of the window of the line above: the words are now w, and what is left of
-- the column makes them what the whole makes of w₀. The search goes on to line `last` at least, which is not before the origin's.
pub record LastRun (bytes : List ℕ) (task : Task) (w₀ w sums words₀ words : List ℕ) (j : ℕ) (waiting : Waiting) (window : Window)
    (ends : List ℕ) (i last : ℕ) : Type 0 where
  pub within : i ≤ suc task.galley.text.count
  pub sized : length w ≡ length w₀
  pub words_sized : length words ≡ length words₀
  pub walked : Walking bytes task.galley (counts_at task.galley i j) waiting
  pub entries : Filled (model_of bytes task.galley) task.origin (table_in task.galley w) i j
  pub run : fill_column (model_of bytes task.galley) task.origin j (suc task.galley.text.count - i) i w
      ≡ fill_column (model_of bytes task.galley) task.origin j (suc task.galley.text.count) 0 w₀
  pub slid : Ends (text_of bytes task.galley.text) (plain task) window i
  pub queued : Queues task.galley w sums words ends j window window 0
  pub waits : Waits bytes task.galley w j (2 * i)
  pub clean : Clean task.galley w j
  pub begun : task.origin.place.line ≤ last
  pub inside : last ≤ task.galley.text.count

-- The columns before j are filled, those that are reached are in the ring, from some column on, and the columns from j on are empty.
pub record ColumnsRun (bytes : List ℕ) (task : Task) (w₀ w words₀ words seen : List ℕ) (recall : Recall) (j : ℕ) : Type 0 where
  pub within : j ≤ columns_in task.galley
  pub sized : length w ≡ length w₀
  pub words_sized : length words ≡ length words₀
  pub ring : length seen ≡ 68
  pub entries : Filled (model_of bytes task.galley) task.origin (table_in task.galley w) 0 j
  pub run : fill_columns (model_of bytes task.galley) task.origin (columns_in task.galley - j) j w
      ≡ fill_columns (model_of bytes task.galley) task.origin (columns_in task.galley) 0 w₀
  pub blank : (b : ℕ) → j ≤ b → b < columns_in task.galley → Blank task.galley w b
  pub recalled : Recalled task.galley w seen task.origin.place.line recall.since j
  pub head : recall.head < length seen
