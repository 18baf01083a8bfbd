-- What is known of the entries filled so far: where their starts stand and what they cost at most.
use Rattle.std.specs.Prelude.{ℕ, ◌+◌, ◌*◌, ◌≤◌, ◌<◌, ◌≡◌, length}
use Rattle.model.specs.Galley.{Sides, Galley}
use Rattle.theorems.specs.turns.Bounds.{dearest}
use Rattle.theorems.specs.pages.Graph.{side}
use Rattle.model.specs.laws.Rules.{placed}
use Rattle.model.specs.laws.Lists.{Inside}
use Rattle.places.specs.declared.Place.{Place}
use Rattle.places.specs.declared.Origin.{Origin}
use Rattle.places.specs.Entry.{least}
use Rattle.places.specs.Order.{Earlier}
use Rattle.places.specs.Columns.{place_at}
use Rattle.candidates.specs.Search.{Table}
use Rattle.entries.specs.Fill.{Words, table_words}

-- The work area has the words of every place.
pub record Roomy (g : Galley) (w : Words) : Type 0 where
  pub words : table_words g ≤ length w

-- c is a side that occurs: 0, or 0 and 1 in double-sided work.
abbrev pub Side : Sides → ℕ → Type 0
Side sides c = side sides c ≡ c

-- The blocks placed at a line and a column.
abbrev pub placed_at : Galley → ℕ → ℕ → ℕ
placed_at g a b = placed g (place_at g a b)

-- What a page costs is small: at most α·(n + k) + β, and no more white than htMax.
pub record Light (g : Galley) : Type 0 where
  pub dear : dearest g ≤ 251000
  pub low : g.spec.htmax ≤ 100000

-- The start of a page that ends at (a, b) lies before it, unless the search begins there; its cost is no more than 251,000 · 2³² + 100,000
-- for each block placed, beside what was paid at the origin; and no count is below the origin's.
pub record Entered (g : Galley) (from : Origin) (a b x : ℕ) (s : Place) : Type 0 where
  pub line : s.line ≤ a
  pub column : s.column ≤ b
  pub less : ((a ≡ from.place.line) × (b ≡ from.place.column) → ⊥) → placed_at g s.line s.column < placed_at g a b
  pub dear : x ≤ from.cost + placed_at g a b * 1078036791396000
  pub past : Inside (place_at g a b) (place_at g from.place.line from.place.column)

-- Every entry filled before place (i, q), column by column, is such a one.
pub record Filled (g : Galley) (from : Origin) (t : Table) (i q : ℕ) : Type 0 where
  pub entered : (a b c x : ℕ) (s : Place) → Earlier a b i q → a ≤ (g.stream 0).size → Side g.spec.sides c → t a b c ≡ least x s
      → Entered g from a b x s
