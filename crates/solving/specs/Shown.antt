-- The table of entries as the graph of pages has it: each start with the side of the page that ends there, and the end.
use Rattle.std.specs.Prelude.{ℕ, ◌-◌, ◌≤◌, ◌<◌, None, Some}
use Rattle.model.specs.Galley as model
use Rattle.model.specs.Galley.{Galley, count}
use Rattle.theorems.specs.optimality.Graph as graph
use Rattle.theorems.specs.optimality.Cell as cell
use Rattle.theorems.specs.pages.Graph as pages
use Rattle.theorems.specs.pages.Graph.{State, stop, end, Within, page_graph}
use Rattle.places.specs.declared.Place.{Place}
use Rattle.places.specs.declared.Origin.{Origin}
use Rattle.places.specs.Entry.{Entry}
use Rattle.places.specs.Columns.{columns, float_sizes, place_at, column_in}
use Rattle.candidates.specs.Search.{Table, before, most_from}
use Rattle.walk.specs.Trace.{last_side}

-- The place that a line and a column are.
abbrev pub at : Galley → Place → model.Place
at g s = place_at g s.line s.column

-- An origin as the graph of pages has it.
abbrev pub origin_of : Galley → Origin → pages.Origin
origin_of g from = record { place = at g from.place; pages = from.pages; cost = from.cost }

-- The graph of a galley's pages from such an origin on.
abbrev pub graph_of : Galley → Origin → graph.Graph
graph_of g from = page_graph g (origin_of g from)

-- An entry of side c: its start is on the side of the page before.
unfoldable pub shown : Galley → ℕ → Entry → graph.Entry ℕ State
shown g c None = graph.unreached
shown g c (Some l) = graph.least l.cost (stop (at g l.start) (before g.spec.sides c))

-- The entry of the end, from that of a full place: the same cost, with the full place as its start.
unfoldable pub finished : State → Entry → graph.Entry ℕ State
finished u None = graph.unreached
finished u (Some l) = graph.least l.cost u

-- The last line and the last column: every block is placed.
abbrev pub last_place : Galley → Place
last_place g = record { line = (g.stream 0).size; column = columns (float_sizes g) - 1 }

-- The table: that of the places, and at the end the better side of the full place.
unfoldable pub table_at : Galley → Table → State → graph.Entry ℕ State
table_at g t (stop v c) = shown g c (t (count v 0) (column_in g v) c)
table_at g t end =
    let m = last_place g in
    let c = last_side g.spec.sides t m in
    finished (stop (at g m) c) (t m.line m.column c)

-- Every entry of the table is right within what the search looks for, the end's included.
abbrev pub AllRight : Galley → Origin → Table → Type 0
AllRight g from t = cell.Right (graph_of g from) (most_from from) (table_at g t) (Within g (origin_of g from))

-- A line and a column of the galley.
pub record Proper (g : Galley) (s : Place) : Type 0 where
  pub line : s.line ≤ (g.stream 0).size
  pub column : s.column < columns (float_sizes g)
