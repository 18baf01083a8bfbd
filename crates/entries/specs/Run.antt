-- What holds at each turn of the loop over the sides of a place.
use Rattle.std.specs.Prelude.{ℕ, ◌+◌, ◌*◌, ◌≤◌, ◌≡◌, List, length}
use Rattle.galley.specs.Model.{model_of}
use Rattle.candidates.specs.Read.{table_in}
use Rattle.entries.specs.declared.side.Task.{Task}
use Rattle.entries.specs.declared.side.End.{End}
use Rattle.entries.specs.declared.side.Windows.{Windows}
use Rattle.entries.specs.Fill.{fill_sides}
use Rattle.entries.specs.Filled.{Filled}
use Rattle.entries.specs.Next.{Queues, Waits}

-- The sides before c of a place are filled.
pub record SidesRun (bytes : List ℕ) (task : Task) (w₀ w sums words₀ words ends₀ ends : List ℕ) (windows : Windows) (end : End) (c : ℕ)
    : Type 0 where
  pub within : c ≤ task.galley.spec.sides
  pub sized : length w ≡ length w₀
  pub words_sized : length words ≡ length words₀
  pub ends_sized : length ends ≡ length ends₀
  pub filled : w ≡ fill_sides (model_of bytes task.galley) task.origin end.at.lines end.column c w₀
  pub entries : Filled (model_of bytes task.galley) task.origin (table_in task.galley w) end.at.lines end.column
  pub queued : Queues task.galley w sums words ends end.column windows.from windows.to c
  pub waits : Waits bytes task.galley w end.column (2 * end.at.lines + c)
