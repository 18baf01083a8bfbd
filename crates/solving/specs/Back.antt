-- The best list of a galley read back from the table, and what that means.
use Rattle.std.specs.Prelude.{ℕ, ◌*◌, ◌≤◌, ◌≡◌, List, ◌++◌, length, drop}
use Rattle.std.proofs.Math.Option.{some}
use Rattle.model.specs.Galley.{Galley, Place, streams}
use Rattle.model.specs.Answers.{words_of}
use Rattle.model.specs.Opening.{best_after}
use Rattle.theorems.specs.pages.Graph.{State, stop}
use Rattle.places.specs.declared.Origin.{Origin}
use Rattle.candidates.specs.Search.{Table}
use Rattle.walk.specs.declared.Stop.{Stop}
use Rattle.walk.specs.Trace.{last_side, count_back, write_back}
use Rattle.solving.specs.Shown.{at, last_place}

-- A stop as the graph of pages has it.
abbrev pub state_of : Galley → Stop → State
state_of g s = stop (at g s.place) s.side

-- Where the last page of the best list stops.
abbrev pub last_of : Galley → Table → Stop
last_of g t = record { place = last_place g; side = last_side g.spec.sides t (last_place g) }

-- The pages counted back from a stop, at most so many.
abbrev pub counted : Galley → Origin → Table → ℕ → Stop → ℕ
counted g from t most last = count_back g.spec.sides t from most last 0

-- After the opening the best list has as many pages as are counted back, no more than `most`, and their words are what is written, before
-- the rest of the page list.
pub record Found (g : Galley) (os : List Place) (from : Origin) (t : Table) (most : ℕ) (last : Stop) (ps : List Place) : Type 0 where
  pub best : best_after g os ≡ some (os ++ ps)
  pub pages : length ps ≡ counted g from t most last
  pub few : counted g from t most last ≤ most
  pub words : (ws : List ℕ) → streams g * counted g from t most last ≤ length ws
      → write_back g t (counted g from t most last) last ws ≡ words_of ps ++ drop (streams g * counted g from t most last) ws
