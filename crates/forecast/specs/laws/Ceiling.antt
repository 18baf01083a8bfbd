-- The ceiling is the product of six factors, two for each stream, and is far within 64 bits.
use Prim.Native.Nat.{ℕ, zero, suc, ◌+◌, ◌*◌, ◌≤◌}
use Rattle.std.proofs.Common.{mul-one, mul-le-mul, le_trans, ◌∙◌}
use Rattle.std.proofs.Math.Decide.{dec_le}
use native.Mathlib.Omega.{arith}
use Rattle.std.specs.Prelude.{◌≡◌, refl, Bool, true, false, List}
use Rattle.std.proofs.Math.Path.{sym, ap}
use Rattle.model.specs.Gather.{pick}
use Rattle.model.specs.Galley as model
use Rattle.model.specs.Weighed.{product, greatest, together, most_together, ceiling}
use Rattle.galley.specs.declared.Galley.{Galley}
use Rattle.galley.specs.Model.{float_streams, model_of}
use Rattle.blocks.specs.laws.Counts.{table_known, floats_some, floats_few}
use Rattle.forecast.specs.Ceiling.{factors}

-- No more than there are.
pub greatest_low : (n : ℕ) (test : ℕ → Bool) → greatest n test ≤ n
unfolding greatest
greatest_low zero test = omega arith
greatest_low (suc n) test = go (test (suc n)) (greatest_low n test)
  where
    go : (b : Bool) → greatest n test ≤ n → pick b (suc n) (greatest n test) ≤ suc n
    go true low = omega arith
    go false low = omega arith

module _ (g : model.Galley) (st : model.Stream) where
  -- The factors, by the most blocks that stand together.
  pub factors_is : (k : ℕ) → k ≡ most_together g st → (st.size + 1) * (k + 1) ≡ factors g st
  unfolding factors
  factors_is k is =
      let blocks : st.size + 1 ≡ suc st.size = omega arith in
      let most : k + 1 ≡ suc (most_together g st) = omega arith in
      ap (λ n. n * (k + 1)) blocks ∙ ap (λ n. suc st.size * n) most

  -- No more stand together than there are, so an empty stream's are 1.
  factors_none : st.size ≡ 0 → factors g st ≡ 1
  unfolding most_together
  factors_none none =
      let low = greatest_low st.size (together g st) in
      let most : 0 ≡ most_together g st = omega arith in
      sym (factors_is 0 most) ∙ ap (λ n. (n + 1) * (0 + 1)) none

-- A stream's factors are no more than the most blocks that it may have allow,
pub factors_few : (n most : ℕ) {r : ℕ} → n ≤ most → r ≤ (n + 1) * (n + 1) → r ≤ (most + 1) * (most + 1)
factors_few n most few low = le_trans low (mul-le-mul {n₁ = n + 1} {m₁ = n + 1} {n₂ = most + 1} {m₂ = most + 1} (omega arith) (omega arith))

-- and all together are less than 2^51.
pub floats_low : {b c : ℕ} → b ≤ 40401 → c ≤ 2601 → b * c ≤ 105083001
floats_low {b} {c} figures tables = mul-le-mul {n₁ = b} {m₁ = c} {n₂ = 40401} {m₂ = 2601} figures tables

pub ceiling_low : {a b c : ℕ} → a ≤ 16008001 → b ≤ 40401 → c ≤ 2601 → a * (b * c) ≤ 1682168785091001
ceiling_low {a} {b} {c} lines figures tables = mul-le-mul {n₁ = a} {m₁ = b * c} {n₂ = 16008001} {m₂ = 105083001} lines (floats_low figures tables)

-- A product over one float stream or two is that of two numbers, where without the second its number is 1.
product_floats : (n : ℕ) (f : ℕ → ℕ) → 1 ≤ n → n ≤ 2 → (n ≡ 1 → f 2 ≡ 1) → product 1 n f ≡ f 1 * f 2
unfolding product
product_floats zero f some few none = absurd (omega arith)
product_floats (suc zero) f some few none = rw (none refl)
product_floats (suc (suc zero)) f some few none = ap (λ k. f 1 * k) (mul-one (f 2))
product_floats (suc (suc (suc n))) f some few none = absurd (omega arith)

module _ (bytes : List ℕ) (g : Galley) where
  abbrev of : ℕ → ℕ
  of s = factors (model_of bytes g) ((model_of bytes g).stream s)

  -- With one float stream there are no tables.
  tables_none : float_streams g ≡ 1 → g.tables.count ≡ 0
  tables_none one = go (dec_le 1 g.tables.count)
    where
      go : Dec (1 ≤ g.tables.count) → g.tables.count ≡ 0
      go (yes some) = let two = table_known g 1 (omega arith) some in absurd (omega arith)
      go (no none) = omega arith

  -- The ceiling is the product of the factors of lines, figures and tables.
  ceiling_of : ceiling (model_of bytes g) ≡ of 0 * (of 1 * of 2)
  unfolding ceiling model.streams product factors
  ceiling_of =
      ap (λ k. of 0 * k)
      (product_floats (float_streams g) of (floats_some g) (floats_few g)
      (λ one. factors_none (model_of bytes g) ((model_of bytes g).stream 2) (tables_none one)))

  pub ceiling_is : (a b c : ℕ) → a ≡ factors (model_of bytes g) ((model_of bytes g).stream 0)
      → b ≡ factors (model_of bytes g) ((model_of bytes g).stream 1) → c ≡ factors (model_of bytes g) ((model_of bytes g).stream 2)
      → a * (b * c) ≡ ceiling (model_of bytes g)
  ceiling_is a b c lines figures tables =
      ap (λ k. k * (b * c)) lines ∙ ap (λ k. of 0 * (k * c)) figures ∙ ap (λ k. of 0 * (of 1 * k)) tables ∙ sym ceiling_of
