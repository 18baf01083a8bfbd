-- The best of the starts that a page may have, whatever the order in which they are found (document 01, "Making": of all lists
-- one with least T; on ties the later starting line, then the later starting column).
use Rattle.std.specs.Prelude.{ℕ, ◌+◌, ◌≤◌, ◌≡◌, None, Some}
use Rattle.places.specs.declared.Place.{Place}
use Rattle.places.specs.Entry.{Entry, least}
use Rattle.places.specs.Order.{NoLater}

-- The entry is reached at a cost that with p more is x.
pub record Paid (e : Entry) (p x : ℕ) : Type 0 where
  pub own : ℕ
  pub start : Place
  pub entry : e ≡ least own start
  pub whole : x ≡ own + p

-- Its cost is small enough for white, or the height up to a line, to be added to it in 64 bits.
abbrev pub Affordable : Entry → Type 0
Affordable e = (x : ℕ) (r : Place) → e ≡ least x r → x ≤ 10000000000000000000

-- The entry is ahead of the start (a, b) at cost y, or is that start.
unfoldable pub Leads : Entry → ℕ → ℕ → ℕ → Type 0
Leads None a b y = ⊥
Leads (Some l) a b y = (l.cost ≤ y) × (l.cost ≡ y → NoLater a b l.start.line l.start.column)

-- Of the starts (a, b) at cost x that are on offer the entry is the best, and it is unreached where none is.
pub record Best (offers : ℕ → ℕ → ℕ → Type 0) (e : Entry) : Type 0 where
  pub may : (x : ℕ) (r : Place) → e ≡ least x r → offers r.line r.column x
  pub leads : (a b y : ℕ) → offers a b y → Leads e a b y
