-- Graphs of states with costs along steps and a tie order on starts; ways from the origin, and the best of them.
use Rattle.std.specs.Prelude.{List, [], ◌∷◌, ◌≡◌, ◌⊎◌}

-- States with an origin, the steps between them, what a step adds to a cost, and the orders on costs and on starts.
pub record Graph : Type 1 where
  pub S : Type 0
  pub C : Type 0
  pub o : S
  pub step : S → S → Type 0
  pub nil : C
  pub add : S → S → C → C
  pub le : C → C → Type 0
  pub tie : S → S → Type 0

-- Both orders are partial orders, that of costs is total, adding keeps the order of costs, loses nothing and never makes a cost less, and
-- no step enters the origin.
pub record Laws (G : Graph) : Type 0 where
  pub le_refl : (a : G.C) → G.le a a
  pub le_trans : {a b c : G.C} → G.le a b → G.le b c → G.le a c
  pub le_antisym : {a b : G.C} → G.le a b → G.le b a → a ≡ b
  pub le_total : (a b : G.C) → G.le a b ⊎ G.le b a
  pub add_grows : (u v : G.S) (a : G.C) → G.le a (G.add u v a)
  pub add_mono : (u v : G.S) {a b : G.C} → G.le a b → G.le (G.add u v a) (G.add u v b)
  pub add_cancel : (u v : G.S) {a b : G.C} → G.add u v a ≡ G.add u v b → a ≡ b
  pub tie_refl : (u : G.S) → G.tie u u
  pub tie_trans : {u v w : G.S} → G.tie u v → G.tie v w → G.tie u w
  pub tie_antisym : {u v : G.S} → G.tie u v → G.tie v u → u ≡ v
  pub origin : {u v : G.S} → G.step u v → ¬ (v ≡ G.o)

-- What a table knows of a state: no way to it, or the least cost of a way and the start of the way's last step.
pub data Entry (C S : Type 0) : Type 0 where
  unreached : Entry C S
  least : C → S → Entry C S

module _ (G : Graph) where
  open G use {S, o, C, step, nil, add, le, tie}

  -- A way from the origin to v, as the starts of its steps, the last step first.
  unfoldable pub Way : List S → S → Type 0
  Way [] v = v ≡ o
  Way (u ∷ us) v = step u v × Way us u

  -- The cost of the way to v with these starts.
  unfoldable pub total : List S → S → C
  total [] v = nil
  total (u ∷ us) v = add u v (total us u)

  -- The first of two ways: at the last step where they differ its start comes first, and a list that has ended does.
  unfoldable pub First : List S → List S → Type 0
  First [] vs = Unit
  First (u ∷ us) [] = ⊥
  First (u ∷ us) (v ∷ vs) = tie u v × (u ≡ v → First us vs)

  -- A way to v that costs no more than any other, and of those that cost the same comes first.
  pub record Optimal (us : List S) (v : S) : Type 0 where
    pub way : Way us v
    pub cheapest : (vs : List S) → Way vs v → le (total us v) (total vs v)
    pub first : (vs : List S) → Way vs v → total vs v ≡ total us v → First us vs
