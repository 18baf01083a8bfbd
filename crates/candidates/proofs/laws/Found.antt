-- What the search finds is the best of all starts.
use Prim.Native.Nat.{ℕ, zero, suc, ◌+◌, ◌≤◌, ◌<◌}
use Rattle.std.proofs.Common.{le_refl, arith, sym, ◌∙◌}
use Rattle.std.proofs.Math.Decide.{dec_lt}
use Rattle.std.specs.Prelude.{◌≡◌, ◌⊎◌, Bool, true, false, None, Some}
use Rattle.std.proofs.Math.Path.{refl}
use Rattle.std.proofs.Math.Logic.{inl, inr}
use Rattle.model.specs.Gather.{pick}
use Rattle.places.specs.Entry.{Entry, least}
use Rattle.places.specs.Best.{Leads, Best}
use Rattle.places.proofs.laws.Best.{least_same, no_reach, best_none, best_least, best_as}
use Rattle.candidates.specs.Better.{start_at}
use Rattle.candidates.specs.Search.{Search, goes, white_from, start_from, on_lines, in_columns, best_start}
use Rattle.candidates.specs.Choice.{Candidate, Starts, Any, Above, Level}
use Rattle.candidates.proofs.laws.Choice.{best_chosen}

-- The first b columns.
abbrev Left : ℕ → ℕ → ℕ → Type 0
Left b a' b' = b' < b

module _ (s : Search) where
  -- A start is the best of itself.
  pub start_best : (a b : ℕ) → a ≤ s.line → b ≤ s.column → Best (Starts s (Level b a)) (start_from s a b)
  unfolding start_from start_at Leads
  start_best a b h k = go (goes s a b) refl (s.table a b s.side) refl
    where
      here : (a' b' x : ℕ) → Starts s (Level b a) a' b' x → Candidate s a b x
      here a' b' x ((p, q), c) = rw (p, q) at c

      go : (t : Bool) → goes s a b ≡ t → (e : Entry) → s.table a b s.side ≡ e
          → Best (Starts s (Level b a)) (pick t (start_at e (white_from s a b) a b) None)
      go false t e f =
          best_none (λ a' b' x c. let u = (here a' b' x c).page in let z : ◌≡◌ {A = ℕ} 0 1 = cc in omega arith)
      go true t None f = best_none (λ a' b' x c. no_reach (sym f ∙ (here a' b' x c).reached.entry))
      go true t (Some l) f =
          best_least (l.cost + white_from s a b) (record { line = a; column = b })
          ((refl, refl), record { line = h; column = k; page = t; reached = record { own = l.cost; start = l.start; entry = f; whole = refl } }) leads
        where
          leads : (a' b' y : ℕ) → Starts s (Level b a) a' b' y
              → Leads (least (l.cost + white_from s a b) (record { line = a; column = b })) a' b' y
          leads a' b' y c =
              let q = (here a' b' y c).reached in
              let (cost, start) = least_same (sym f ∙ q.entry) in
              (omega (arith, q.whole), λ _. inr (c.0.1, omega (arith, c.0.0)))

  lines_best : (b : ℕ) → b ≤ s.column → (a : ℕ) → a ≤ suc s.line → Best (Starts s (Above b a)) (on_lines s b a)
  unfolding on_lines
  lines_best b k zero h = best_none (λ a' b' x c. omega (arith, c.0.1))
  lines_best b k (suc a) h =
      best_chosen (λ a' b' x c. ((c.0.0, omega (arith, c.0.1)), c.1)) (λ a' b' x c. ((c.0.0, omega (arith, c.0.1)), c.1))
      (λ a' b' x c. go a' b' x c (dec_lt a' a)) (on_lines s b a) (start_from s a b) (lines_best b k a (omega arith))
      (start_best a b (omega arith) k)
    where
      go : (a' b' x : ℕ) → Starts s (Above b (suc a)) a' b' x → Dec (a' < a)
          → Starts s (Above b a) a' b' x ⊎ Starts s (Level b a) a' b' x
      go a' b' x c (yes l) = inl ((c.0.0, l), c.1)
      go a' b' x c (no l) = inr ((c.0.0, omega (arith, c.0.1)), c.1)

  columns_best : (b : ℕ) → b ≤ suc s.column → Best (Starts s (Left b)) (in_columns s b)
  unfolding in_columns
  columns_best zero h = best_none (λ a' b' x c. omega (arith, c.0))
  columns_best (suc b) h =
      best_chosen (λ a' b' x c. (omega (arith, c.0), c.1)) (λ a' b' x c. (omega (arith, c.0.0), c.1))
      (λ a' b' x c. go a' b' x c (dec_lt b' b)) (in_columns s b) (on_lines s b (suc s.line)) (columns_best b (omega arith))
      (lines_best b (omega arith) (suc s.line) (le_refl _))
    where
      go : (a' b' x : ℕ) → Starts s (Left (suc b)) a' b' x → Dec (b' < b)
          → Starts s (Left b) a' b' x ⊎ Starts s (Above b (suc s.line)) a' b' x
      go a' b' x c (yes l) = inl (l, c.1)
      go a' b' x c (no l) = inr ((omega (arith, c.0), omega (arith, c.1.line)), c.1)

  -- What the search finds is the best of all starts.
  pub best_start_lem : Best (Starts s Any) (best_start s)
  unfolding best_start
  best_start_lem =
      best_as (λ a b x c. (tt, c.1)) (λ a b x c. (omega (arith, c.1.column), c.1)) (columns_best (suc s.column) (le_refl _))
