-- The floats that wait at a place, of any float stream: document 02, S-2.
use Rattle.std.specs.Prelude.{ℕ, zero, suc, ◌+◌, ◌-◌, ◌≤◌, ◌<◌, ◌≡◌, List, [], ◌∷◌, length, leb}
use Rattle.model.specs.Gather.{pick, times}
use Rattle.model.specs.Galley as model
use Rattle.model.specs.Leaf.{ends}
use Rattle.galley.specs.declared.Stream.{Stream}
use Rattle.galley.specs.declared.Galley.{Galley}
use Rattle.galley.specs.Sound.{SoundStream}
use Rattle.galley.specs.Model.{floats_of, sides_in}
use Rattle.blocks.specs.declared.Counts.{Counts}
use Rattle.rules.specs.Parts.{Ahead}
use Rattle.rules.specs.declared.waiting.Waiting.{Waiting}

-- Of the `left` floats after float k, those met on the way to the first that a line after i cites (document 02, S-2).
unfoldable pub waiting_from : model.Stream → ℕ → ℕ → ℕ → List ℕ
waiting_from st i zero k = []
waiting_from st i (suc left) k = pick (leb (st.cite (suc k)) i) (suc k ∷ waiting_from st i left (suc k)) []

-- The floats found from float j + 1 on, where i lines and j floats of the stream are placed (document 02, S-2).
unfoldable pub waiting_floats : model.Stream → ℕ → ℕ → List ℕ
waiting_floats st i j = waiting_from st i (st.size - j) j

-- How many they are.
abbrev pub waits : model.Stream → ℕ → ℕ → ℕ
waits st i j = length (waiting_floats st i j)

-- How many of each stream wait where so much is placed (document 02, S-4).
abbrev pub waiting_of : List ℕ → Galley → Counts → Waiting
waiting_of bytes g at =
    record {
      figures = waits (floats_of bytes g.figures) at.lines at.figures;
      tables = waits (floats_of bytes g.tables) at.lines at.tables;
    }

-- A list has every float past j that line i or an earlier one cites, each once, and no other (document 02, S-2).
pub record EachOnce (st : model.Stream) (i j : ℕ) (list : List ℕ) : Type 0 where
  pub each : (k : ℕ) → j < k → k ≤ st.size → st.cite k ≤ i → times k list ≡ 1
  pub other : (k : ℕ) → 1 ≤ times k list → (j < k) × (k ≤ st.size) × (st.cite k ≤ i)

-- The first `known` floats past j are there, and line i or an earlier one cites each of them.
pub record Walked (bytes : List ℕ) (floats : Stream) (i j known : ℕ) : Type 0 where
  pub sound : SoundStream bytes floats
  pub within : j + known ≤ floats.count
  pub upto : (k : ℕ) → j < k → k ≤ j + known → (floats_of bytes floats).cite k ≤ i

-- The same of each stream of floats.
pub record Walking (bytes : List ℕ) (g : Galley) (at : Counts) (known : Waiting) : Type 0 where
  pub figures : Walked bytes g.figures at.lines at.figures known.figures
  pub tables : Walked bytes g.tables at.lines at.tables known.tables

-- A page goes from u to v, and so many floats are known to wait at u.
pub record WalkingOn (bytes : List ℕ) (g : Galley) (u v : Counts) (known : Waiting) : Type 0 where
  pub walking : Walking bytes g u known
  pub ahead : Ahead g u v

-- What page q adds to X where so many floats wait at its end: all of them where it ends its leaf (document 01, "Spreads and
-- turns").
unfoldable pub waiting_at : Galley → ℕ → ℕ → ℕ
waiting_at g q waiting = pick (ends (sides_in g) q) waiting 0
