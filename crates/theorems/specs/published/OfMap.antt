-- The page list of a map: its places, and when it is accepted.
use Prim.Native.Nat.{ℕ, zero, suc, ◌+◌, ◌≤◌, ◌<◌}
use native.Mathlib.Omega.{arith}
use Rattle.std.specs.Prelude.{◌≡◌, Bool, true, false, length, leb, eqb}
use Rattle.std.proofs.Math.Path.{refl, sym, ap}
use Rattle.std.proofs.Common.{◌∙◌, leb-true, leb-false, eq-eqb, ne_eqb}
use Rattle.std.proofs.Math.Seq.{ext_get_or}
use Rattle.model.specs.Gather.{pick, one, sum}
use Rattle.model.specs.Galley.{Galley, Place, Block, count, streams}
use Rattle.model.specs.Answers.{ended}
use Rattle.model.specs.Turns.{page_of}
use Rattle.model.specs.Best.{Allowed}
use Rattle.model.specs.Pagination.{Map, place_on, list_on}
use Rattle.model.proofs.laws.Gather.{and_both, length_row, row_at}
use Rattle.model.specs.laws.Judge.{accepts}
use Rattle.model.specs.laws.Words.{Shaped}
use Rattle.model.proofs.laws.Valid.{same_refl}
use Rattle.theorems.specs.published.Fits.{Fits, count_fits}
use Rattle.theorems.specs.published.Heights.{After}

module _ (g : Galley) (P : Map) where
  pub length_place : (q : ℕ) → length (place_on g P q) ≡ streams g
  unfolding place_on
  length_place q = length_row 0 (streams g) _

  -- The place after page q counts the blocks on page q or earlier.
  pub count_place : (q s : ℕ) → s ≤ g.floats → count (place_on g P q) s ≡ sum (g.stream s).size (λ k. one (leb (P s k) q))
  unfolding place_on count streams
  count_place q s d =
      row_at 0 (suc g.floats) (λ s. sum (g.stream s).size (λ k. one (leb (P s k) q))) s (omega arith)
      ∙ ap (λ s. sum (g.stream s).size (λ k. one (leb (P s k) q))) (let e : 0 + s ≡ s = omega arith in e)

  -- It is the place of the right length that counts as many.
  pub place_is : (q : ℕ) (v : Place) → length v ≡ streams g → ((s : ℕ) → s ≤ g.floats → count (place_on g P q) s ≡ count v s)
      → place_on g P q ≡ v
  unfolding count streams
  place_is q v e h = let l = length_place q in ext_get_or 0 (place_on g P q) v (l ∙ sym e) (λ s b. h s (omega arith))

  -- The list of p pages has p places, each of the right length.
  pub length_list : (p q : ℕ) → length (list_on g P p q) ≡ p
  unfolding list_on
  length_list zero q = refl
  length_list (suc p) q = ap suc (length_list p (suc q))

  pub list_shaped : (p q : ℕ) → Shaped (streams g) (list_on g P p q)
  unfolding list_on
  list_shaped zero q = tt
  list_shaped (suc p) q = (length_place q, list_shaped p (suc q))

  ended_list : (d q r p : ℕ) → p ≡ q + suc d → ended (list_on g P d r) ≡ eqb (suc q) p
  unfolding list_on
  ended_list zero q r p e = sym (eq-eqb (suc q) p (omega arith))
  ended_list (suc d) q r p e = sym (ne_eqb (suc q) p (λ x. omega arith))

  -- The list is accepted where each page from place to place is allowed and the last place is the full one.
  pub accepts_list : (ok : Allowed) (l : Place) (p : ℕ) → place_on g P p ≡ l
      → ((q : ℕ) → q < p → ok (suc q) (eqb (suc q) p) (place_on g P q) (place_on g P (suc q)) ≡ true)
      → (d q : ℕ) → p ≡ q + d → accepts ok l (suc q) (place_on g P q) (list_on g P d (suc q)) ≡ true
  unfolding accepts list_on
  accepts_list ok l p full may zero q e =
      let is : q ≡ p = omega arith in
      rw (is, full) (same_refl l)
  accepts_list ok l p full may (suc d) q e =
      let here = rw (← ended_list d q (suc (suc q)) p e) at (may q (omega arith)) in
      and_both here (accepts_list ok l p full may d (suc q) (omega arith))

module _ {g : Galley} {P : Map} (order : (s k : ℕ) → Block g s k → Block g s (suc k) → P s k ≤ P s (suc k)) where
  -- Where each stream keeps its order, the first blocks of each stream are those on page q or earlier.
  pub place_after : (q : ℕ) → After g P q (place_on g P q)
  place_after q s d = rw (count_place g P q s d) (count_fits (g.stream s).size q (P s) up)
    where
      up : (k : ℕ) → 1 ≤ k → k < (g.stream s).size → P s k ≤ P s (suc k)
      up k a b =
          order s k (omega arith) (omega arith)

  -- The page that places a block in the list is its page.
  pub page_list : (s k : ℕ) → Block g s k → (d q : ℕ) → q < P s k → P s k ≤ q + d
      → page_of s k (suc q) (list_on g P d (suc q)) ≡ P s k
  unfolding page_of list_on
  page_list s k b zero q l h = absurd (omega arith)
  page_list s k b (suc d) q l h = go (leb k (count (place_on g P (suc q)) s)) refl (page_list s k b d (suc q))
    where
      F : Fits (g.stream s).size (suc q) (count (place_on g P (suc q)) s) (P s)
      F = place_after (suc q) s b.stream

      go : (t : Bool) → leb k (count (place_on g P (suc q)) s) ≡ t
          → (suc q < P s k → P s k ≤ suc q + d → page_of s k (suc (suc q)) (list_on g P d (suc (suc q))) ≡ P s k)
          → pick t (suc q) (page_of s k (suc (suc q)) (list_on g P d (suc (suc q)))) ≡ P s k
      go true e below = let r = F.early k b.first (leb-true _ _ e) in omega arith
      go false e below =
          let after = leb-false k (count (place_on g P (suc q)) s) e in
          let later : ¬ (P s k ≤ suc q) = λ r. (let x = F.late k b.first b.last r in omega arith) in
          below (omega arith) (omega arith)
