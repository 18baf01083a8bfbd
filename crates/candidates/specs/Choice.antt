-- The starts that a search weighs, and the parts in which they are weighed.
use Rattle.std.specs.Prelude.{ℕ, ◌≤◌, ◌<◌, ◌≡◌, true}
use Rattle.places.specs.Best.{Paid}
use Rattle.candidates.specs.Search.{Search, goes, white_from}

-- A page may go from (a, b) to the place that is searched for, rules 14 and 17 left aside, and all before it costs, with the page's white, x.
pub record Candidate (s : Search) (a b x : ℕ) : Type 0 where
  pub line : a ≤ s.line
  pub column : b ≤ s.column
  pub page : goes s a b ≡ true
  pub reached : Paid (s.table a b s.side) (white_from s a b) x

-- The candidates of P.
abbrev pub Starts : Search → (ℕ → ℕ → Type 0) → ℕ → ℕ → ℕ → Type 0
Starts s P a b x = P a b × Candidate s a b x

-- Every start.
abbrev pub Any : ℕ → ℕ → Type 0
Any a b = Unit

-- The first i lines of column b.
abbrev pub Above : ℕ → ℕ → ℕ → ℕ → Type 0
Above b i a' b' = (b' ≡ b) × (a' < i)

-- Line i of column b.
abbrev pub Level : ℕ → ℕ → ℕ → ℕ → Type 0
Level b i a' b' = (b' ≡ b) × (a' ≡ i)

-- The columns from b on and before q.
abbrev pub Between : ℕ → ℕ → ℕ → ℕ → Type 0
Between b q a' b' = (b ≤ b') × (b' < q)
