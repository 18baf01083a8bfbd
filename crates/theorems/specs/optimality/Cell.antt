-- When a table of least costs is right: one condition for each cell, which looks only at the entries of its starts. Costs never fall
-- along a way, so that a table may leave out what costs more than a limit and still be right about everything else.
use Rattle.std.specs.Prelude.{List, [], ◌∷◌, ◌≡◌, ℕ, ◌<◌}
use Rattle.theorems.specs.optimality.Graph.{Graph, Entry, unreached, least, Way, total, Optimal}

-- An entry for each state.
abbrev pub Table : Graph → Type 0
Table G = G.S → Entry G.C G.S

-- A set of states that holds the start of each step into it, with a number that falls from a state to its starts.
pub record Domain (G : Graph) : Type 1 where
  pub In : G.S → Type 0
  pub closed : {u v : G.S} → In v → G.step u v → In u
  pub rank : G.S → ℕ
  pub falls : {u v : G.S} → In v → G.step u v → rank u < rank v

module _ (G : Graph) where
  open G use {S, C, le, tie}

  -- The entry x is ahead of y, or level: cheaper, or as cheap with a start that comes first, or y is unreached.
  unfoldable pub Ahead : Entry C S → Entry C S → Type 0
  Ahead x unreached = Unit
  Ahead unreached (least d w) = ⊥
  Ahead (least c u) (least d w) = le c d × (c ≡ d → tie u w)

module _ (G : Graph) (D : Table G) where
  open G use {S, o, C, step, add}

  -- The start u is reached and has a step to v, and c is its cost with that step added.
  pub record Offer (v : S) (c : C) (u : S) : Type 0 where
    pub may : step u v
    pub cost : C
    pub start : S
    pub reached : D u ≡ least cost start
    pub price : c ≡ add u v cost

  -- The starts met on the walk from v back to the origin, each read from the entry of the state before.
  unfoldable pub Trace : List S → S → Type 0
  Trace [] v = v ≡ o
  Trace (u ∷ us) v = (¬ (v ≡ o)) × ((c : C) × (D v ≡ least c u)) × Trace us u

  -- The walk back from v meets us, which is the one optimal way to v and costs c.
  pub record Walk (us : List S) (v : S) (c : C) : Type 0 where
    pub trace : Trace us v
    pub cost : total G us v ≡ c
    pub optimal : Optimal G us v
    pub only : (vs : List S) → Optimal G vs v → vs ≡ us

-- A table in which nothing is looked for that costs more than `most`.
module _ (G : Graph) (most : G.C) (D : Table G) where
  open G use {S, o, C, nil, le}

  -- The entry e of v has seen every start: it is the best of what they offer within the limit, or unreached where nothing is.
  pub record Seen (v : S) (e : Entry C S) : Type 0 where
    pub offered : (c : C) (u : S) → e ≡ least c u → Offer G D v c u × le c most
    pub best : (c : C) (u : S) → Offer G D v c u → le c most → Ahead G e (least c u)

  -- The entry e of v is right: the origin has the cost nil, and any other state has the best that all starts offer.
  pub data Cell (v : S) (e : Entry C S) : Type 0 where
    base : v ≡ o → (u : S) → e ≡ least nil u → Cell v e
    inner : ¬ (v ≡ o) → Seen v e → Cell v e

  -- Every cell of K is right.
  abbrev pub Right : (S → Type 0) → Type 0
  Right K = (v : S) → K v → Cell v (D v)

  -- What the entry e tells of v: that no way within the limit leads there, or the least cost of all ways, with the best of them by
  -- walking back.
  pub record Answer (v : S) (e : Entry C S) : Type 0 where
    pub none : e ≡ unreached → (us : List S) → Way G us v → ¬ le (total G us v) most
    pub found : (c : C) (u : S) → e ≡ least c u → (us : List S) × Walk G D us v c
