-- The lines of a column weighed one by one.
use Rattle.std.specs.Prelude.{ℕ, ◌+◌, ◌≤◌, ◌<◌, ◌≡◌, ◌⊎◌, None, Some}
use Rattle.std.proofs.Math.Decide.{dec_lt}
use Rattle.std.proofs.Common.{arith, ◌∙◌, inl}
use Rattle.std.proofs.Math.Path.{refl, sym}
use Rattle.std.proofs.Math.Logic.{inr}
use Rattle.places.specs.Entry.{Entry}
use Rattle.places.specs.Best.{Paid, Leads, Best}
use Rattle.places.proofs.laws.Best.{least_same, no_reach, best_none, best_least, best_as}
use Rattle.queues.specs.Queue.{Lines}
use Rattle.candidates.specs.Better.{chosen, start_at}
use Rattle.candidates.proofs.laws.Choice.{best_chosen}

module _ (col : ℕ → Entry) (add : ℕ → ℕ) (b : ℕ) where
  -- Line a alone.
  abbrev Only : ℕ → ℕ → ℕ → ℕ → Type 0
  Only a a' b' x = (a' ≡ a) × (b' ≡ b) × Paid (col a) (add a) x

  only_best : (a : ℕ) (e : Entry) → col a ≡ e → Best (Only a) (start_at e (add a) a b)
  unfolding start_at Leads
  only_best a None f = best_none (λ a' b' x c. no_reach (sym f ∙ c.2.entry))
  only_best a (Some l) f =
      best_least (l.cost + add a) (record { line = a; column = b }) (refl, refl, record { own = l.cost; start = l.start; entry = f; whole = refl })
      (λ a' b' y c.
      let (cost, start) = least_same (sym f ∙ c.2.entry) in
      (omega (arith, c.2.whole), λ _. inr (c.0, omega (arith, c.1))))

  -- Before the first line there is no start,
  pub lines_none : (low : ℕ) → Best (Lines col add low low b) None
  lines_none low = best_none (λ a b' x c. omega (arith, c.0, c.1))

  -- each line is weighed against the best so far,
  pub lines_next : (low a : ℕ) (e : Entry) → low ≤ a → Best (Lines col add low a b) e
      → Best (Lines col add low (a + 1) b) (chosen e (start_at (col a) (add a) a b))
  lines_next low a e l best =
      best_chosen (λ a' b' x c. (c.0, omega (arith, c.1), c.2, c.3)) here split e (start_at (col a) (add a) a b) best (only_best a (col a) refl)
    where
      here : (a' b' x : ℕ) → Only a a' b' x → Lines col add low (a + 1) b a' b' x
      here a' b' x (p, q, r) = (omega arith, omega arith, q, rw p r)

      split : (a' b' x : ℕ) → Lines col add low (a + 1) b a' b' x → Lines col add low a b a' b' x ⊎ Only a a' b' x
      split a' b' x (k, m, q, r) = go (dec_lt a' a)
        where
          go : Dec (a' < a) → Lines col add low a b a' b' x ⊎ Only a a' b' x
          go (yes n) = inl (k, n, q, r)
          go (no n) = let p : a' ≡ a = omega arith in inr (p, q, rw p at r)

  -- until the window ends, which may be before it begins.
  pub lines_all : (low high a : ℕ) (e : Entry) → (a ≡ low) ⊎ (a ≤ high) → high ≤ a → Best (Lines col add low a b) e
      → Best (Lines col add low high b) e
  lines_all low high a e either l =
      best_as (λ a' b' x c. (c.0, inside a' c.0 c.1 either, c.2, c.3)) (λ a' b' x c. (c.0, omega (arith, c.1), c.2, c.3))
    where
      inside : (a' : ℕ) → low ≤ a' → a' < a → (a ≡ low) ⊎ (a ≤ high) → a' < high
      inside a' k m (inl p) = absurd (omega arith)
      inside a' k m (inr p) = omega arith
