-- What the functions that fill a place ask for: what is filled, and what comes next; and what they leave.
use Rattle.std.specs.Prelude.{ℕ, ◌+◌, ◌*◌, ◌≤◌, ◌<◌, ◌≡◌, false, List, length, None}
use Rattle.galley.specs.declared.Galley.{Galley}
use Rattle.galley.specs.Model.{text_of, model_of}
use Rattle.blocks.specs.Heights.{no_heights}
use Rattle.places.specs.Best.{Best}
use Rattle.places.specs.Entry.{boundless}
use Rattle.window.specs.declared.slide.Load.{Load}
use Rattle.window.specs.declared.slide.Window.{Window}
use Rattle.queues.specs.declared.queue.Source.{Source}
use Rattle.queues.specs.declared.parts.Parts.{Parts}
use Rattle.window.specs.Slide.{Open}
use Rattle.queues.specs.Queue.{lines_of, Payable}
use Rattle.window.specs.Slide.{Rises}
use Rattle.queues.specs.Parts.{parts_of, Both, Moved}
use Rattle.candidates.specs.Fronts.{best_front, Fronted}
use Rattle.candidates.specs.Choice.{Starts, Above, Between}
use Rattle.rules.specs.Parts.{all_placed}
use Rattle.candidates.specs.Read.{table_in, side_of, search_of, columns_in, counts_at, load_of}
use Rattle.passes.specs.Sweep.{Lent, Scratch, Summed, Knows}
use Rattle.entries.specs.declared.side.Task.{Task}
use Rattle.entries.specs.declared.side.End.{End}
use Rattle.entries.specs.declared.side.Windows.{Windows}
use Rattle.entries.specs.Fill.{fill_side, fill_place}
use Rattle.entries.specs.Filled.{Side, Filled}
use Rattle.pricing.specs.Stop.{stop_at, turns_on}
use Rattle.pricing.specs.Price.{waits_at}

-- The entries before (i, j) are filled, from an origin of the galley at which little was paid, with a limit that no list passes.
pub record Next (bytes : List ℕ) (task : Task) (w : List ℕ) (i j : ℕ) : Type 0 where
  pub lent : Lent bytes task.galley w j
  pub cheap : task.origin.cost ≤ boundless
  pub limited : task.origin.limit ≤ boundless
  pub line : task.origin.place.line ≤ task.galley.text.count
  pub origin : task.origin.place.column < columns_in task.galley
  pub filled : Filled (model_of bytes task.galley) task.origin (table_in task.galley w) i j

-- A page ends at a place of the galley, whose counts are known, where so many floats wait, and which says so much of the page.
pub record Ending (bytes : List ℕ) (g : Galley) (end : End) : Type 0 where
  pub line : end.at.lines ≤ g.text.count
  pub counts : end.at ≡ counts_at g end.at.lines end.column
  pub found : end.waiting ≡ waits_at bytes g end.at
  pub stop : end.stop ≡ stop_at bytes g end.at

-- The load of a page of lines alone, which is no lower than `least`: nothing beside them, and no start before the origin's line.
abbrev pub bare : Task → ℕ → Load
bare task least = load_of task.galley 0 no_heights least task.origin.place.line

-- That of a page that is not the last.
abbrev pub plain : Task → Load
plain task = bare task task.galley.spec.htmin

-- No line of column b before the origin's is reached on a side, of those above line i.
abbrev pub Before : Task → List ℕ → ℕ → ℕ → ℕ → Type 0
Before task w b side i = (a : ℕ) → a < task.origin.place.line → a < i → lines_of w (task.galley.text.count + 1) b side a ≡ None

-- What is known of the starts of a page that ends at a place, on a side.
abbrev pub StartsFor : List ℕ → Galley → List ℕ → End → (ℕ → ℕ → Type 0) → ℕ → ℕ → ℕ → Type 0
StartsFor bytes g w end P = Starts (search_of bytes g w end.at.lines end.column (side_of g end.side)) P

-- The lines above in the column can be weighed, and the better of the queues' fronts is the best of them but for the last page.
pub record LinesAbove (bytes : List ℕ) (task : Task) (w sums words : List ℕ) (parts : Parts) (end : End) : Type 0 where
  pub lent : Lent bytes task.galley w end.column
  pub begin : task.origin.place.line ≤ task.galley.text.count
  pub before : Before task w end.column (side_of task.galley end.side) end.at.lines
  pub line : end.at.lines ≤ task.galley.text.count
  pub counts : end.at ≡ counts_at task.galley end.at.lines end.column
  pub full : end.stop.full ≡ all_placed task.galley end.at
  pub side : end.side ≤ 1
  pub summed : Summed bytes task.galley sums
  pub costs : Payable (lines_of w (task.galley.text.count + 1) end.column (side_of task.galley end.side)) end.at.lines
  pub front : Fronted sums words parts end.column (plain task) end.at.lines
  pub best : all_placed task.galley end.at ≡ false
      → Best (StartsFor bytes task.galley w end (Above end.column end.at.lines))
      (best_front sums words parts end.column (plain task) end.at.lines)

-- The entry of a place on a side comes next.
pub record EntryNext (bytes : List ℕ) (task : Task) (w sums words : List ℕ) (parts : Parts) (end : End) : Type 0 where
  pub next : Next bytes task w end.at.lines end.column
  pub ending : Ending bytes task.galley end
  pub turns : end.turns ≡ turns_on task.galley end.side
  pub side : Side (model_of bytes task.galley).spec.sides end.side
  pub above : LinesAbove bytes task w sums words parts end
  pub known : Knows bytes task.galley w end.at.lines end.column end.side (Between 0 end.column)

-- The windows of line i, for pages of lines alone.
pub record Slides (bytes : List ℕ) (task : Task) (windows : Windows) (i : ℕ) : Type 0 where
  pub rises : Rises windows.from windows.to
  pub opened : Open (text_of bytes task.galley.text) (plain task) windows.to i

-- One side of a place comes next: its words hold the best start in an earlier column, and its queues the starts above.
pub record SideNext (bytes : List ℕ) (task : Task) (w sums words : List ℕ) (parts : Parts) (windows : Windows) (end : End)
    : Type 0 where
  pub next : Next bytes task w end.at.lines end.column
  pub ending : Ending bytes task.galley end
  pub summed : Summed bytes task.galley sums
  pub scratch : Scratch words
  pub slides : Slides bytes task windows end.at.lines
  pub occurs : end.side < task.galley.spec.sides
  pub turns : end.turns ≡ turns_on task.galley end.side
  pub held : Both (lines_of w (task.galley.text.count + 1) end.column (side_of task.galley end.side)) sums words
      (8000 * end.side) parts windows.from
  pub known : Knows bytes task.galley w end.at.lines end.column end.side (Between 0 end.column)

-- The lines of the column where the page ends, on the side before.
abbrev pub own_lines : Galley → End → Source
own_lines g end = record { tall = g.text.count + 1; column = end.column; side = side_of g end.side }

-- It is filled, and its queues have moved on.
pub record SideFilled (bytes : List ℕ) (task : Task) (w v sums words words' : List ℕ) (parts : Parts) (windows : Windows) (end : End)
    (r : Parts) : Type 0 where
  pub filled : v ≡ fill_side (model_of bytes task.galley) task.origin end.at.lines end.column end.side w
  pub moved : Moved w sums words (own_lines task.galley end) parts windows.to r words'

-- The queues of side c hold the lines of column b in a window.
abbrev pub Holds : Galley → List ℕ → List ℕ → List ℕ → List ℕ → ℕ → Window → ℕ → Type 0
Holds g w sums words ends b window c =
    Both (lines_of w (g.text.count + 1) b (side_of g c)) sums words (8000 * c) (parts_of ends c) window

-- The queues of the sides before n are those of the window `new`, the others those of `old`.
pub record Queues (g : Galley) (w sums words ends : List ℕ) (b : ℕ) (old new : Window) (n : ℕ) : Type 0 where
  pub rows : length ends ≡ 8
  pub moved : (c : ℕ) → c < n → c < g.spec.sides → Holds g w sums words ends b new c
  pub still : (c : ℕ) → n ≤ c → c < g.spec.sides → Holds g w sums words ends b old c

-- The places of column j come line by line and side by side: those from number n on hold their best starts in earlier columns.
abbrev pub Waits : List ℕ → Galley → List ℕ → ℕ → ℕ → Type 0
Waits bytes g w j n = (k c : ℕ) → k ≤ g.text.count → c < g.spec.sides → n ≤ 2 * k + c → Knows bytes g w k j c (Between 0 j)

-- The sides of a place come next.
pub record PlaceNext (bytes : List ℕ) (task : Task) (w sums words ends : List ℕ) (windows : Windows) (end : End) : Type 0 where
  pub next : Next bytes task w end.at.lines end.column
  pub ending : Ending bytes task.galley end
  pub summed : Summed bytes task.galley sums
  pub scratch : Scratch words
  pub slides : Slides bytes task windows end.at.lines
  pub queued : Queues task.galley w sums words ends end.column windows.from windows.to 0
  pub waits : Waits bytes task.galley w end.column (2 * end.at.lines)

-- All are filled.
pub record PlaceFilled (bytes : List ℕ) (task : Task) (w v sums words ends : List ℕ) (windows : Windows) (end : End) : Type 0 where
  pub filled : v ≡ fill_place (model_of bytes task.galley) task.origin end.at.lines end.column w
  pub queued : Queues task.galley v sums words ends end.column windows.to windows.to 0
  pub waits : Waits bytes task.galley v end.column (2 * end.at.lines + 2)
