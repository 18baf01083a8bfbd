-- The words of the ring: what is read of one is what was put in it, the lines but for the eights.
use Rattle.std.specs.Prelude.{ℕ, zero, suc, ◌+◌, ◌≤◌, ◌<◌, ◌≡◌, refl, List, get_or, replicate}
use Rattle.std.proofs.Math.Decide.{dec_lt}
use Rattle.std.proofs.Common.{arith, sym, ◌∙◌}
use Rattle.reached.specs.Ring.{hint_of, hint_name, hint_first, hint_last, Named}

module _ (j first last : ℕ) (high : first ≤ 4000) (low : last ≤ 4000) where
  -- The column,
  pub hint_name_lem : hint_name (hint_of j first last) ≡ j + 1
  hint_name_lem = omega arith

  -- a line that is no later than the first,
  pub hint_first_lem : hint_first (hint_of j first last) ≤ first
  hint_first_lem = omega arith

  -- and one that is no earlier than the last.
  pub hint_last_lem : last ≤ hint_last (hint_of j first last)
  hint_last_lem = omega arith

-- One word more does not name the column.
pub absent_next : (seen : List ℕ) (n at : ℕ) → ((k : ℕ) → k < at → hint_name (get_or seen k 0) ≡ n → ⊥)
    → (hint_name (get_or seen at 0) ≡ n → ⊥) → (k : ℕ) → k < at + 1 → hint_name (get_or seen k 0) ≡ n → ⊥
absent_next seen n at none here k l same = go (dec_lt k at)
  where
    go : Dec (k < at) → ⊥
    go (yes h) = none k h same
    go (no h) = let e : k ≡ at = omega arith in here (rw e at same)

-- A ring of zeros names no column.
zeros : (n k : ℕ) → ◌≡◌ {A = ℕ} (get_or (replicate n 0) k 0) 0
zeros zero k = refl
zeros (suc n) zero = refl
zeros (suc n) (suc k) = zeros n k

pub fresh_named : (n : ℕ) → Named (replicate n 0) 0
fresh_named n b x here = let e = sym here.word ∙ zeros n here.at in omega (arith, here.names)
