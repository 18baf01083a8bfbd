-- A sum over all places is a sum over lines and columns, and so is what is weighed, for any number of float streams.
use Prim.Native.Nat.{ℕ, zero, suc, ◌+◌, ◌*◌, ◌/◌, ◌%◌, ◌<◌}
use Rattle.std.proofs.Math.Nat.{suc-mul, mul-add-div_right, mul-add-mod_self_right, div-eq_of_lt}
use Rattle.std.proofs.Common.{mod-eq_of_lt, ◌∙◌}
use native.Mathlib.Omega.{arith}
use Rattle.std.specs.Prelude.{◌≡◌, ◌&&◌, List, [], ◌∷◌}
use Rattle.std.proofs.Math.Path.{ap}
use Rattle.model.specs.Gather.{one, sum, total, row}
use Rattle.model.specs.Galley.{Galley, Place, streams, sizes}
use Rattle.model.specs.Best.{box}
use Rattle.model.specs.Weighed.{sum_of, weighs, past, weighed_from}
use Rattle.model.proofs.laws.Gather.{sum_add, sum_zero, total_ext}
use Rattle.model.specs.laws.Boxes.{below}
use Rattle.model.proofs.laws.Boxes.{below_ext, below_add, sum_box}
use Rattle.places.specs.Columns.{columns, floats_at, float_sizes, place_at}
use Rattle.places.proofs.laws.Columns.{columns_some}
use Rattle.weighing.specs.Columns.{pairs_from}

-- Rows of `wide` things each, numbered through.
module _ (wide : ℕ) (some : 0 < wide) (f : ℕ → ℕ → ℕ) where
  abbrev through : ℕ → ℕ
  through c = f (c / wide) (c % wide)

  row_through : (k c : ℕ) → c < wide → through (k * wide + c) ≡ f k c
  row_through k c l =
      let q : (k * wide + c) / wide ≡ k = mul-add-div_right some k c ∙ ap (λ x. k + x) (div-eq_of_lt l) ∙ omega arith in
      let r : (k * wide + c) % wide ≡ c = mul-add-mod_self_right k wide c ∙ mod-eq_of_lt l in
      rw (q, r)

  rows_through : (n : ℕ) → total n (λ k. below wide (f k)) ≡ below (suc n * wide) through
  unfolding total sum below
  rows_through zero =
      let e : suc 0 * wide ≡ 0 * wide + wide = omega arith in
      let row = below_ext wide (λ c. through (0 * wide + c)) (f 0) (λ c l. row_through 0 c l) in
      let all = below_add (0 * wide) wide through in
      let none : 0 * wide ≡ 0 = omega arith in
      let empty : below (0 * wide) through ≡ 0 = ap (λ n. below n through) none in
      rw e (omega arith)
  rows_through (suc n) =
      let e : suc (suc n) * wide ≡ suc n * wide + wide = omega (arith, suc-mul (suc n) wide) in
      let row = below_ext wide (λ c. through (suc n * wide + c)) (f (suc n)) (λ c l. row_through (suc n) c l) in
      let all = below_add (suc n * wide) wide through in
      let rest = rows_through n in
      rw e (omega arith)

pub columns_all : (ns : List ℕ) (f : Place → ℕ) → sum_of f (box ns) ≡ below (columns ns) (λ c. f (floats_at ns c))
unfolding columns floats_at box sum_of below
columns_all [] f = omega arith
columns_all (n ∷ ns) f =
    sum_box f n ns
    ∙ total_ext n _ _ (λ k l. columns_all ns (λ v. f (k ∷ v)))
    ∙ rows_through (columns ns) (columns_some ns) (λ k c. f (k ∷ floats_at ns c)) n

-- Sums over lines and over columns may change places.
lines_columns : (m n : ℕ) (f : ℕ → ℕ → ℕ) → total m (λ i. below n (f i)) ≡ below n (λ c. total m (λ i. f i c))
unfolding below total
lines_columns m zero f = omega (arith, sum_zero m)
lines_columns m (suc n) f =
    let rest = lines_columns m n f in
    let both = sum_add m (λ i. below n (f i)) (λ i. f i n) in
    omega arith

module _ (g : Galley) where
  abbrev wide : ℕ
  wide = columns (float_sizes g)

  places_all : (f : Place → ℕ) → sum_of f (box (sizes g)) ≡ below wide (λ c. total (g.stream 0).size (λ i. f (place_at g i c)))
  unfolding sizes streams row float_sizes place_at
  places_all f =
      sum_box f (g.stream 0).size (float_sizes g)
      ∙ total_ext (g.stream 0).size _ _ (λ k l. columns_all (float_sizes g) (λ v. f (k ∷ v)))
      ∙ lines_columns (g.stream 0).size wide (λ k c. f (place_at g k c))

  -- What is weighed from a place on, column by column.
  pub weighed_columns : (w : Place) → weighed_from g w ≡ below wide (λ q. below wide (λ b. pairs_from g w b q))
  unfolding weighed_from pairs_from
  weighed_columns w =
      places_all (λ v. sum_of (λ u. one (past g w u && weighs g u v)) (box (sizes g)))
      ∙ below_ext wide _ _
      (λ q l.
      total_ext (g.stream 0).size _ _ (λ i h. places_all (λ u. one (past g w u && weighs g u (place_at g i q))))
      ∙ lines_columns (g.stream 0).size wide
      (λ i b. total (g.stream 0).size (λ a. one (past g w (place_at g a b) && weighs g (place_at g a b) (place_at g i q)))))
