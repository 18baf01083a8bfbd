-- Words copied over the first of others.
use Rattle.std.specs.Prelude.{ℕ, ◌≤◌, List, ◌++◌, ◌≡◌, length, take, drop}

-- There are so many words, and room for them.
pub record Room (from : List ℕ) (count : ℕ) (into : List ℕ) : Type 0 where
  pub there : count ≤ length from
  pub room : count ≤ length into

-- The words after i of them are copied.
pub record Copied (from : List ℕ) (count : ℕ) (into into' : List ℕ) (i : ℕ) : Type 0 where
  pub fits : Room from count into
  pub some : i ≤ count
  pub done : into' ≡ take i from ++ drop i into
  pub long : length into' ≡ length into
