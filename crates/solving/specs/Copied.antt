-- The words of an opening copied over the first of a page list.
use Rattle.std.specs.Prelude.{ℕ, ◌≤◌, ◌≡◌, List, ◌++◌, length, take, drop}

-- The first i words are copied, and the others are as they were.
pub record Copied (opening list list' : List ℕ) (i : ℕ) : Type 0 where
  pub room : length opening ≤ length list
  pub some : i ≤ length opening
  pub done : list' ≡ take i opening ++ drop i list
  pub long : length list' ≡ length list
