-- The numbers of a pagination's page list are those of the pagination.
use Rattle.std.specs.Prelude.{ℕ, zero, suc, ◌+◌, ◌-◌, ◌*◌, ◌≤◌, ◌≡◌}
use Rattle.std.proofs.Common.{mul-add, mul-zero, arith, ◌∙◌}
use Rattle.std.proofs.Math.Path.{ap, ap₂}
use Rattle.model.specs.Gather.{sum}
use Rattle.model.specs.Galley.{Galley, Block, Sane}
use Rattle.model.specs.Leaf.{leaf}
use Rattle.model.specs.Turns.{page_of, apart, x_of, y_of, turns}
use Rattle.model.specs.Pagination.{Map, Pagination, list_on, x_on, turns_on}
use Rattle.model.proofs.laws.Gather.{sum_ext}
use Rattle.theorems.specs.published.OfMap.{length_list, page_list}

module _ {g : Galley} (sane : Sane g) {p : ℕ} {P : Map} (m : Pagination g p P) where
  -- The page that places a block is its page.
  pub page_on : (s k : ℕ) → Block g s k → page_of s k 1 (list_on g P p 1) ≡ P s k
  page_on s k b = let upto = (m.into s k b).1 in page_list m.order s k b p 0 (m.into s k b).0 (omega arith)

  -- X, Y and T of the list are those of the pagination.
  pub x_on_lem : x_of g (list_on g P p 1) ≡ x_on g P
  unfolding x_of x_on apart
  x_on_lem =
      sum_ext g.floats _ _
      (λ s a d. sum_ext (g.stream s).size _ _ (λ k b c. float s a k (omega arith)))
    where
      float : (s : ℕ) → 1 ≤ s → (k : ℕ) → Block g s k
          → apart g (list_on g P p 1) s k ≡ leaf g.spec.sides (P s k) - leaf g.spec.sides (P 0 ((g.stream s).cite k))
      float s a k b =
          ap₂ (λ x y. leaf g.spec.sides x - leaf g.spec.sides y) (page_on s k b)
          (page_on 0 ((g.stream s).cite k) (sane.cites s k a b))

  pub y_on : y_of g (list_on g P p 1) ≡ leaf g.spec.sides p - leaf g.spec.sides 1
  unfolding y_of
  y_on = ap (λ n. leaf g.spec.sides n - leaf g.spec.sides 1) (length_list g P p 1)

  pub turns_on_lem : turns g (list_on g P p 1) ≡ turns_on g p P
  unfolding turns turns_on
  turns_on_lem = ap₂ (λ x y. g.spec.alpha * x + g.spec.beta * y) x_on_lem y_on

sum_times : (a n : ℕ) (f : ℕ → ℕ) → a * sum n f ≡ sum n (λ k. a * f k)
unfolding sum
sum_times a zero f = mul-zero a
sum_times a (suc n) f =
    let below = sum_times a n f in
    let both = mul-add a (sum n f) (f (suc n)) in
    omega arith

-- A weight goes into the sum over floats.
pub weighted : (a n : ℕ) (m : ℕ → ℕ) (f : ℕ → ℕ → ℕ)
    → a * sum n (λ s. sum (m s) (f s)) ≡ sum n (λ s. sum (m s) (λ k. a * f s k))
weighted a n m f = sum_times a n (λ s. sum (m s) (f s)) ∙ sum_ext n _ _ (λ s b c. sum_times a (m s) (f s))
