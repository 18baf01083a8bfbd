-- The first number at which something is large enough.
use Rattle.std.specs.Prelude.{ℕ, ◌≤◌, ◌<◌}

-- r is the first number from `head` on at which f is no less than the target, or `tail` where there is none before it.
pub record First (f : ℕ → ℕ) (target head tail r : ℕ) : Type 0 where
  pub from : head ≤ r
  pub to : r ≤ tail
  pub passed : (k : ℕ) → head ≤ k → k < r → f k < target
  pub kept : r < tail → target ≤ f r
