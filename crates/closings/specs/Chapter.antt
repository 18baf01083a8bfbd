-- One chapter of a book, opened on a folio: the galley there, its table, and the lists that lie in it (document 02, S-9).
use Rattle.std.specs.Prelude.{ℕ, zero, suc, ◌≤◌, ◌≡◌, Bool, false, List, length, eqb, ltb}
use Rattle.model.specs.Gather.{pick}
use Rattle.model.specs.Galley.{Sides}
use Rattle.galley.specs.declared.Galley.{Galley}
use Rattle.galley.specs.Model.{sides_in}
use Rattle.galley.specs.Sound.{Sound}
use Rattle.places.specs.declared.Origin.{Origin}
use Rattle.places.specs.Entry.{boundless}
use Rattle.places.specs.Address.{words_needed}
use Rattle.candidates.specs.Search.{Table}
use Rattle.candidates.specs.Read.{table_in, columns_in, FewFloats}
use Rattle.walk.specs.declared.Stop.{Stop}
use Rattle.walk.specs.Trace.{back}
use Rattle.walk.specs.Traceable.{blocks_in, full_place, Visits, Walkable}
use Rattle.solving.specs.Solved.{TabledFrom}

-- The galley opened on another folio (document 02, S-9).
abbrev pub on_folio : ℕ → Galley → Galley
on_folio f g = record { spec = g.spec; folio = f; text = g.text; figures = g.figures; tables = g.tables }

-- Where a chapter begins: nothing is placed, there is no page yet, and nothing is paid; every list is looked for, since the next chapter
-- may want a dearer one.
abbrev pub nothing_yet : Origin
nothing_yet = record { place = record { line = 0; column = 0 }; pages = 0; cost = 0; limit = boundless }

-- A galley that was read, on whatever folio it opens, and a work area as long as it needs.
pub record ChapterRoom (bytes : List ℕ) (g : Galley) (w : List ℕ) : Type 0 where
  pub sound : Sound bytes g
  pub room : words_needed g.text.count (columns_in g) ≤ length w

-- A work area that was filled from there, whatever it held before.
abbrev pub Tabled : List ℕ → Galley → List ℕ → Type 0
Tabled bytes g w = TabledFrom bytes g nothing_yet w

-- The galley's counts are within document 01's limits.
pub record Counted (g : Galley) : Type 0 where
  pub lines : g.text.count ≤ 4000
  pub floats : FewFloats g

-- Where a list that closes on a side stops: at the full place.
abbrev pub closing_stop : Galley → ℕ → Stop
closing_stop g c = record { place = full_place g; side = c }

-- Walks back through two tables side by side: where they first part, the start of the first is the later.
unfoldable pub later_back : Sides → Table → Table → ℕ → Stop → Stop → Bool
later_back sides t u zero a b = false
later_back sides t u (suc left) a b =
    let x = back sides t a in
    let y = back sides u b in
    pick (eqb x.place.line y.place.line)
    (pick (eqb x.place.column y.place.column) (later_back sides t u left x y) (ltb y.place.column x.place.column))
    (ltb y.place.line x.place.line)

-- For as many pages as a list can have.
abbrev pub later_starts : Galley → List ℕ → List ℕ → Stop → Stop → Bool
later_starts g w v a b = later_back (sides_in g) (table_in g w) (table_in g v) (blocks_in g) a b

-- A walk may begin in each of two tables.
pub record BothWalk (g : Galley) (w v : List ℕ) (a b : Stop) : Type 0 where
  pub first : Walkable g w a
  pub second : Walkable g v b

-- The walks side by side have come to stops a and b, with so many pages left.
pub record Parting (g : Galley) (w v : List ℕ) (first second a b : Stop) (left : ℕ) : Type 0 where
  pub one : Visits g a
  pub other : Visits g b
  pub same : later_back (sides_in g) (table_in g w) (table_in g v) left a b ≡ later_starts g w v first second
