-- The best start of a place by line and column, for any number of float streams, and the entry that the place gets.
use Rattle.std.specs.Prelude.{ℕ, zero, suc, ◌+◌, ◌-◌, Bool, ◌&&◌, eqb, ltb, None, Some}
use Rattle.model.specs.Gather.{pick}
use Rattle.model.specs.Galley.{Sides, single, double, Galley}
use Rattle.theorems.specs.pages.Graph.{side, full}
use Rattle.model.specs.Rules.{forward, closes, fits, fills, cited}
use Rattle.model.specs.laws.White.{page_white}
use Rattle.theorems.specs.turns.Waiting.{page_cost}
use Rattle.theorems.specs.turns.Rank.{rank}
use Rattle.places.specs.declared.Origin.{Origin}
use Rattle.places.specs.Entry.{Entry, least}
use Rattle.places.specs.Columns.{place_at}
use Rattle.candidates.specs.Better.{chosen, start_at}

-- A table of places: the entry of a line and a column on a side.
abbrev pub Table : Type 0
Table = ℕ → ℕ → ℕ → Entry

-- The side of the page before one on side c.
unfoldable pub before : Sides → ℕ → ℕ
before single c = 0
before (double f) c = 1 - c

-- What one search is for: the galley, its table, the line and column where the page ends, and the side of the page before.
pub record Search : Type 0 where
  pub galley : Galley
  pub table : Table
  pub line : ℕ
  pub column : ℕ
  pub side : ℕ

-- A page goes from (a, b) to the place that is searched for, rules 14 and 17 left aside.
unfoldable pub goes : Search → ℕ → ℕ → Bool
goes s a b =
    let g = s.galley in
    let u = place_at g a b in
    let v = place_at g s.line s.column in
    forward g u v && (fits g u v && fills g (full g v) u v)

-- The white of the page from (a, b): nothing where it is the last (document 02, S-10).
unfoldable pub white_from : Search → ℕ → ℕ → ℕ
white_from s a b =
    let g = s.galley in
    let v = place_at g s.line s.column in
    page_white g (full g v) (place_at g a b) v

-- The start (a, b), where a page goes from it, with the page's white in its cost.
unfoldable pub start_from : Search → ℕ → ℕ → Entry
start_from s a b = pick (goes s a b) (start_at (s.table a b s.side) (white_from s a b) a b) None

-- The best of the first a lines of column b.
unfoldable pub on_lines : Search → ℕ → ℕ → Entry
on_lines s b zero = None
on_lines s b (suc a) = chosen (on_lines s b a) (start_from s a b)

-- The best of the first b columns.
unfoldable pub in_columns : Search → ℕ → Entry
in_columns s zero = None
in_columns s (suc b) = chosen (in_columns s b) (on_lines s b (suc s.line))

-- The best of all starts.
unfoldable pub best_start : Search → Entry
best_start s = in_columns s (suc s.column)

-- The most that a place may cost to be looked for: what was paid where the search begins, and its limit.
abbrev pub most_from : Origin → ℕ
most_from from = from.cost + from.limit

-- An entry with the rest of the page's price added; unreached where that is more than `most`.
unfoldable pub priced : ℕ → ℕ → Entry → Entry
priced most p None = None
priced most p (Some l) = pick (ltb most (l.cost + p)) None (least (l.cost + p) l.start)

-- A page may end at a place on side c: rules 14 and 17, which do not depend on where it starts.
unfoldable pub may_stop : Galley → ℕ → ℕ → ℕ → Bool
may_stop g i q c = let v = place_at g i q in closes g v && cited g c (full g v) v

-- The search begins at a place on side c: at the origin's place, on the side of the page that ends there.
unfoldable pub begins : Sides → Origin → ℕ → ℕ → ℕ → Bool
begins sides from i q c = eqb i from.place.line && (eqb q from.place.column && eqb c (side sides from.pages))

-- The entry that a place gets on side c, from the entries of the places before it: where the search begins, what was paid there;
-- else the best start, which has the page's white, with its turns, if that is no more than the search looks for.
unfoldable pub new_entry : Galley → Origin → Table → ℕ → ℕ → ℕ → Entry
new_entry g from t i q c =
    pick (begins g.spec.sides from i q c) (least from.cost from.place)
    (pick (may_stop g i q c)
    (priced (most_from from) (rank (page_cost g c (full g (place_at g i q)) (place_at g i q)) 0)
    (best_start (record { galley = g; table = t; line = i; column = q; side = before g.spec.sides c })))
    None)
