-- A row written: its own words, and those of the others.
use Rattle.std.specs.Prelude.{ℕ, ◌+◌, ◌*◌, ◌≤◌, ◌<◌, ◌≡◌, refl, ◌⊎◌, List, [], ◌∷◌, length, get_or}
use Rattle.std.proofs.Math.Decide.{dec_lt}
use Rattle.std.proofs.Common.{arith, ◌∙◌, inl, inr}
use Rattle.std.proofs.Math.Seq.{length-sets}
use Rattle.places.proofs.laws.Stored.{sets_out, sets_in}
use Rattle.window.specs.Rows.{pushed, Beside}

-- The words after a row is written: its own, and those of the others.
module _ (words : List ℕ) (t first second third : ℕ) where
  pub pushed_length : length (pushed words t first second third) ≡ length words
  unfolding pushed
  pushed_length = length-sets words (3 * t) (first ∷ second ∷ third ∷ [])

  pub pushed_word : (n : ℕ) → (n < 3 * t) ⊎ (3 * t + 3 ≤ n) → get_or (pushed words t first second third) n 0 ≡ get_or words n 0
  unfolding pushed
  pushed_word n out = sets_out (first ∷ second ∷ third ∷ []) words (3 * t) n out

  pub pushed_own : (d : ℕ) → d < 3 → 3 * t + 3 ≤ length words
      → get_or (pushed words t first second third) (3 * t + d) 0 ≡ get_or (first ∷ second ∷ third ∷ []) d 0
  unfolding pushed
  pushed_own d l room = sets_in (first ∷ second ∷ third ∷ []) words (3 * t) d l room

  -- So are the words of another row.
  pub pushed_other : (k n : ℕ) → ¬ (k ≡ t) → 3 * k ≤ n → n < 3 * k + 3 → get_or (pushed words t first second third) n 0 ≡ get_or words n 0
  pushed_other k n apart l m = go (dec_lt k t) (dec_lt t k)
    where
      go : Dec (k < t) → Dec (t < k) → get_or (pushed words t first second third) n 0 ≡ get_or words n 0
      go (yes p) q = pushed_word n (inl (omega arith))
      go (no p) (yes q) = pushed_word n (inr (omega arith))
      go (no p) (no q) = absurd (apart (omega arith))

  -- Rows other than the one written are as they were.
  pub pushed_beside : {old : List ℕ} {from to : ℕ} → from ≤ t → t < to → Beside old words from to
      → Beside old (pushed words t first second third) from to
  pushed_beside {old} {from} {to} l m h = record { words = λ n p. pushed_word n (apart n p) ∙ h.words n p }
    where
      apart : (n : ℕ) → (n < 3 * from) ⊎ (3 * to ≤ n) → (n < 3 * t) ⊎ (3 * t + 3 ≤ n)
      apart n (inl p) = inl (omega arith)
      apart n (inr p) = inr (omega arith)

-- Nothing stored leaves all as it was.
pub beside_none : (words : List ℕ) (from to : ℕ) → Beside words words from to
beside_none words from to = record { words = λ n p. refl }

-- Two runs of stores within a range leave what is beside it.
pub beside_both : {old mid new : List ℕ} {from to from' to' low high : ℕ} → Beside old mid from to → Beside mid new from' to'
    → (low ≤ from) × (to ≤ high) → (low ≤ from') × (to' ≤ high) → Beside old new low high
beside_both {old} {mid} {new} {from} {to} {from'} {to'} {low} {high} one two (l, m) (l', m') =
    record { words = λ n p. two.words n (wide n from' to' l' m' p) ∙ one.words n (wide n from to l m p) }
  where
    wide : (n a b : ℕ) → low ≤ a → b ≤ high → (n < 3 * low) ⊎ (3 * high ≤ n) → (n < 3 * a) ⊎ (3 * b ≤ n)
    wide n a b l m (inl p) = inl (omega arith)
    wide n a b l m (inr p) = inr (omega arith)
