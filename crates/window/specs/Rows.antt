-- Rows of three words in a slice: the sums of a line, the ends of a window, or an entry of a queue.
use Rattle.std.specs.Prelude.{ℕ, ◌*◌, ◌≤◌, ◌<◌, ◌≡◌, ◌⊎◌, List, [], ◌∷◌, get_or}
use Rattle.std.proofs.lemmas.List.Edits.{sets}

-- The words with three of them written as row `at`.
unfoldable pub pushed : List ℕ → ℕ → ℕ → ℕ → ℕ → List ℕ
pushed words at first second third = sets words (3 * at) (first ∷ second ∷ third ∷ [])

-- Rows before `from` and from `to` on are as they were.
pub record Beside (old new : List ℕ) (from to : ℕ) : Type 0 where
  pub words : (n : ℕ) → (n < 3 * from) ⊎ (3 * to ≤ n) → get_or new n 0 ≡ get_or old n 0
