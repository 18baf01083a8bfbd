-- The folios of the best route, followed back from the folio after the book.
use Rattle.std.specs.Prelude.{ℕ, zero, suc, ◌+◌, ◌-◌, ◌*◌, ◌≤◌, ◌<◌, ◌≡◌, List, ◌∷◌, length, get_or, drop}

-- The folio that the route to folio o after chapter k, from 0, comes from.
abbrev pub came_from : List ℕ → ℕ → ℕ → ℕ
came_from from k o = get_or from (2 * k + o - 1) 0

-- The folios on which the first k chapters open, by where each route comes from, then the folio o after them, then those that follow.
unfoldable pub followed : List ℕ → ℕ → ℕ → List ℕ → List ℕ
followed from zero o after = o ∷ after
followed from (suc k) o after = followed from k (came_from from k o) (o ∷ after)

-- All folios on the way are 1 or 2.
unfoldable pub Leads : List ℕ → ℕ → ℕ → Type 0
Leads from zero o = (1 ≤ o) × (o ≤ 2)
Leads from (suc k) o = (1 ≤ o) × (o ≤ 2) × Leads from k (came_from from k o)

-- The way back of so many chapters may be followed, and its folios written.
pub record Followable (from : List ℕ) (chapters last : ℕ) (folios : List ℕ) : Type 0 where
  pub few : chapters ≤ 200
  pub leads : Leads from chapters last
  pub words : 2 * chapters ≤ length from
  pub room : chapters < length folios

-- It was followed back to the folio after the first k chapters.
pub record Following (from : List ℕ) (chapters last : ℕ) (after folios : List ℕ) (k : ℕ) : Type 0 where
  pub within : k ≤ chapters
  pub room : chapters < length folios
  pub leads : Leads from k (get_or folios k 0)
  pub same : followed from k (get_or folios k 0) (drop (k + 1) folios) ≡ followed from chapters last after
