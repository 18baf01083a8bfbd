-- The full place: nothing waits there.
use Rattle.std.specs.Prelude.{ℕ, ◌≤◌, ◌≡◌}
use Rattle.std.proofs.Common.{arith, ◌∙◌, le-ltb}
use Rattle.model.specs.Gather.{one, sum}
use Rattle.model.specs.Galley.{Galley, count, sizes}
use Rattle.model.proofs.laws.Gather.{sum_ext, sum_zero}
use Rattle.model.proofs.laws.Valid.{count_sizes}
use Rattle.theorems.specs.turns.Waiting.{dangles, waiting_in, waiting}

-- At the full place nothing waits.
pub waiting_full : (g : Galley) → waiting g (sizes g) ≡ 0
unfolding waiting waiting_in dangles
waiting_full g = none g.floats _ (λ s p q. none (g.stream s).size _ (λ k i j. go s k q j))
  where
    none : (n : ℕ) (f : ℕ → ℕ) → ((k : ℕ) → 1 ≤ k → k ≤ n → f k ≡ 0) → sum n f ≡ 0
    none n f h = sum_ext n f (λ k. 0) h ∙ sum_zero n

    go : (s k : ℕ) → s ≤ g.floats → k ≤ (g.stream s).size → one (dangles g s k (sizes g)) ≡ 0
    go s k q j =
        let full = count_sizes g s q in
        simp (le-ltb (count (sizes g) s) k (omega arith))
