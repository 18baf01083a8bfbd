-- The lines of a column weighed one by one for the last page: what is asked of them, and what is found.
use Rattle.std.specs.Prelude.{ℕ, ◌+◌, ◌≤◌, List}
use Rattle.model.specs.Galley.{Stream}
use Rattle.galley.specs.declared.Galley.{Galley}
use Rattle.places.specs.Entry.{Entry}
use Rattle.places.specs.Address.{Stands}
use Rattle.places.specs.Best.{Best}
use Rattle.window.specs.declared.slide.Load.{Load}
use Rattle.window.specs.declared.slide.Window.{Window}
use Rattle.window.specs.Sums.{Sums}
use Rattle.window.specs.Slide.{shut_at, Slidable, Open}
use Rattle.queues.specs.Queue.{lines_of, Lines, Payable}

-- The lines of a column stand in the work area with small costs, and their window can be found from the first one that is reached on.
pub record LinesStand (g : Galley) (w sums : List ℕ) (load : Load) (column side : ℕ) : Type 0 where
  pub stands : (a : ℕ) → a ≤ g.text.count → Stands w (g.text.count + 1) (record { line = a; column = column }) side
  pub costs : Payable (lines_of w (g.text.count + 1) column side) g.text.count
  pub first : load.first ≤ g.text.count
  pub slides : Slidable sums load (shut_at load) g.text.count

-- The entry is the best of the lines of a column in the window of the last line.
pub record LastBest (g : Galley) (w sums : List ℕ) (load : Load) (column side : ℕ) (e : Entry) : Type 0 where
  pub window : Window
  pub opens : (st : Stream) → Sums st g.text.count sums → Open st load window g.text.count
  pub best : Best (Lines (lines_of w (g.text.count + 1) column side) (λ a. 0) window.low window.high column) e
