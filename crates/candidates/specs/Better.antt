-- Which of two starts of a page is better: the less dear, then the later line, then the later column (document 01, "Making").
use Rattle.std.specs.Prelude.{ℕ, ◌+◌, ◌<◌, ◌≡◌, Bool, true, not, ◌&&◌, ◌||◌, List, eqb, leb, ltb, None, Some}
use Rattle.model.specs.Gather.{pick}
use Rattle.places.specs.declared.Place.{Place}
use Rattle.places.specs.Entry.{Entry, least, less, entry_at, stored}

-- The second start is no later than the first.
abbrev pub no_later : Place → Place → Bool
no_later r s = ltb s.line r.line || (eqb s.line r.line && leb s.column r.column)

-- The start r at cost y is better than s at cost x, or is s.
abbrev pub beats : ℕ → Place → ℕ → Place → Bool
beats y r x s = less y x || (not (less x y) && no_later r s)

-- It is better than an entry, or is its start.
unfoldable pub wins : ℕ → Place → Entry → Bool
wins y r None = true
wins y r (Some l) = beats y r l.cost l.start

-- The better of two entries: the second where it costs less, or the same and the first starts no later.
unfoldable pub chosen : Entry → Entry → Entry
chosen e None = e
chosen e (Some l) = pick (wins l.cost l.start e) (Some l) e

-- Where both entries are reached, the second starts after a later line.
abbrev pub Later : Entry → Entry → Type 0
Later e f = (x y : ℕ) (s r : Place) → e ≡ least x s → f ≡ least y r → s.line < r.line

-- The entry of place (a, b) as a start there, with the white of the page in its cost.
unfoldable pub start_at : Entry → ℕ → ℕ → ℕ → Entry
start_at None white a b = None
start_at (Some l) white a b = least (l.cost + white) (record { line = a; column = b })

-- The work area with the entry at `at` replaced where another is better.
unfoldable pub taken : List ℕ → ℕ → Entry → List ℕ
taken w at None = w
taken w at (Some l) = pick (wins l.cost l.start (entry_at w at)) (stored w at (Some l)) w
