-- The places of a column in the work area: numbered, stored in and empty.
use Rattle.std.specs.Prelude.{ℕ, ◌+◌, ◌*◌, ◌≤◌, ◌<◌, ◌≡◌, List, length, None}
use Rattle.galley.specs.declared.Galley.{Galley}
use Rattle.places.specs.Address.{words_needed, address}
use Rattle.places.specs.Entry.{Entry, stored}
use Rattle.candidates.specs.Read.{table_in, columns_in, FewFloats}

-- The places of a column come side by side and line by line: the number of line k on side c.
abbrev pub number : ℕ → ℕ → ℕ
number c k = 4001 * c + k

-- v is w after stores in column j, on sides that occur.
pub data Scratched (g : Galley) (j : ℕ) (w : List ℕ) : List ℕ → Type 0 where
  fresh : Scratched g j w w
  more : (v u : List ℕ) (i c : ℕ) (e : Entry) → Scratched g j w v → i ≤ g.text.count → c < g.spec.sides
      → u ≡ stored v (address (g.text.count + 1) i j c) e → Scratched g j w u

-- At most place (i, j) on side c has changed, and it holds e.
pub record Changed (g : Galley) (w v : List ℕ) (i j c : ℕ) (e : Entry) : Type 0 where
  pub sized : length v ≡ length w
  pub own : table_in g v i j c ≡ e
  pub others : (a b d : ℕ) → a ≤ g.text.count → d ≤ 1 → ((i ≡ a) × (j ≡ b) × (c ≡ d) → ⊥)
      → table_in g v a b d ≡ table_in g w a b d
  pub kept : Scratched g j w v

-- A column of a galley within the limits.
pub record Wide (g : Galley) (j : ℕ) : Type 0 where
  pub few : g.text.count ≤ 4000
  pub floats : FewFloats g
  pub within : j < columns_in g

-- Column j stands in the work area.
pub record ColumnRoom (g : Galley) (w : List ℕ) (j : ℕ) : Type 0 where
  pub wide : Wide g j
  pub two : g.spec.sides ≤ 2
  pub room : words_needed g.text.count (columns_in g) ≤ length w

-- Place (k, j) has the words of an unreached place on side c: to store that once more changes nothing.
abbrev pub Empty : Galley → List ℕ → ℕ → ℕ → ℕ → Type 0
Empty g w k j c = stored w (address (g.text.count + 1) k j c) None ≡ w

-- Every place of column j is empty.
abbrev pub Blank : Galley → List ℕ → ℕ → Type 0
Blank g w j = (k c : ℕ) → k ≤ g.text.count → c < g.spec.sides → Empty g w k j c

-- Every unreached place of column j is empty.
abbrev pub Clean : Galley → List ℕ → ℕ → Type 0
Clean g w j = (k c : ℕ) → k ≤ g.text.count → c < g.spec.sides → table_in g w k j c ≡ None → Empty g w k j c
