-- Numbers of a table copied over the first of some words.
use Rattle.std.specs.Prelude.{ℕ, ◌+◌, ◌≤◌, ◌≡◌, List, ◌++◌, length, take, drop}

-- So many numbers of a table, from a place on, and then the words after the first so many.
abbrev pub overwritten : List ℕ → ℕ → ℕ → List ℕ → List ℕ
overwritten table at count words = take count (drop at table) ++ drop count words

-- The table has so many numbers from a place on, and there are words enough for them.
pub record Inside (table : List ℕ) (at count : ℕ) (words : List ℕ) : Type 0 where
  pub there : at + count ≤ length table
  pub room : count ≤ length words

-- The words after i of the numbers are copied.
pub record Copied (table : List ℕ) (at count : ℕ) (words words' : List ℕ) (i : ℕ) : Type 0 where
  pub inside : Inside table at count words
  pub some : i ≤ count
  pub done : words' ≡ overwritten table at i words
  pub long : length words' ≡ length words
