-- What is asked of a galley and its work area before the walk back, and what holds while it goes on.
use Rattle.std.specs.Prelude.{ℕ, ◌+◌, ◌*◌, ◌-◌, ◌≤◌, ◌<◌, ◌≡◌, Bool, true, false, List, length, None, Some}
use Rattle.galley.specs.declared.Galley.{Galley}
use Rattle.galley.specs.Model.{sides_in, model_of}
use Rattle.blocks.specs.Counts.{page_words}
use Rattle.places.specs.declared.Place.{Place}
use Rattle.places.specs.declared.Origin.{Origin}
use Rattle.places.specs.Entry.{Entry, least}
use Rattle.places.specs.Address.{words_needed}
use Rattle.candidates.specs.Read.{table_in, columns_in, FewFloats}
use Rattle.entries.specs.Filled.{Side}
use Rattle.walk.specs.declared.Stop.{Stop}
use Rattle.walk.specs.Trace.{last_side, count_back, write_back}

-- An entry says that its place is reached.
abbrev pub is_reached : Entry → Bool
is_reached None = false
is_reached (Some l) = true

-- How many blocks there are: no list has more pages.
abbrev pub blocks_in : Galley → ℕ
blocks_in g = g.text.count + g.figures.count + g.tables.count

-- The work area has all words of a galley within document 01's limits.
pub record WorkArea (g : Galley) (w : List ℕ) : Type 0 where
  pub lines : g.text.count ≤ 4000
  pub floats : FewFloats g
  pub words : words_needed g.text.count (columns_in g) ≤ length w

-- The full place of a galley, where every block is placed: the last line and the last column.
abbrev pub full_place : Galley → Place
full_place g = record { line = g.text.count; column = columns_in g - 1 }

-- Where the best list's last page stops: at the full place, on the last side.
abbrev pub last_stop : Galley → List ℕ → Stop
last_stop g w = record { place = full_place g; side = last_side (sides_in g) (table_in g w) (full_place g) }

-- A stop within the galley, on a side that occurs.
pub record Visits (g : Galley) (at : Stop) : Type 0 where
  pub line : at.place.line ≤ g.text.count
  pub column : at.place.column < columns_in g
  pub side : Side (sides_in g) at.side

-- The start that an entry holds lies no later than its place.
pub record Traceable (g : Galley) (w : List ℕ) : Type 0 where
  pub lent : WorkArea g w
  pub starts : (a b c x : ℕ) (s : Place) → a ≤ g.text.count → b < columns_in g → Side (sides_in g) c
      → table_in g w a b c ≡ least x s → (s.line ≤ a) × (s.column ≤ b)

-- A walk over such a table may begin at a stop.
pub record Walkable (g : Galley) (w : List ℕ) (first : Stop) : Type 0 where
  pub table : Traceable g w
  pub visits : Visits g first

-- The words of a page that stops at a place of the galley, from word k on, are within a list.
pub record PageRoom (g : Galley) (place : Place) (k : ℕ) (ws : List ℕ) : Type 0 where
  pub lines : g.text.count ≤ 4000
  pub floats : FewFloats g
  pub line : place.line ≤ g.text.count
  pub column : place.column < columns_in g
  pub room : k + page_words g ≤ length ws

-- It may write p pages to a list of words.
pub record Writable (g : Galley) (w : List ℕ) (first : Stop) (p : ℕ) (ws : List ℕ) : Type 0 where
  pub walk : Walkable g w first
  pub room : page_words g * p ≤ length ws

-- The pages on the way back from a stop: no more than there are blocks.
abbrev pub pages_back : Galley → List ℕ → Origin → Stop → ℕ
pages_back g w from first = count_back (sides_in g) (table_in g w) from (blocks_in g) first 0

-- The count back has come to a stop with p pages.
pub record Counting (g : Galley) (w : List ℕ) (from : Origin) (first at : Stop) (p : ℕ) : Type 0 where
  pub visits : Visits g at
  pub few : p ≤ blocks_in g
  pub same : count_back (sides_in g) (table_in g w) from (blocks_in g - p) at p ≡ pages_back g w from first

-- The writing back of p pages to the list ws₀ has come to a stop, with r pages left and the list ws.
pub record Writing (g : Galley) (w : List ℕ) (first : Stop) (p : ℕ) (ws₀ ws : List ℕ) (at : Stop) (r : ℕ) : Type 0 where
  pub visits : Visits g at
  pub few : r ≤ p
  pub room : page_words g * p ≤ length ws
  pub long : length ws ≡ length ws₀
  pub same : (bytes : List ℕ)
      → write_back (model_of bytes g) (table_in g w) r at ws ≡ write_back (model_of bytes g) (table_in g w) p first ws₀
