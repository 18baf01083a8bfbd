-- Rule 17 where leaves end and on the last page is the paper's fourth constraint, as citations grow.
use Rattle.std.specs.Prelude.{ℕ, zero, suc, ◌+◌, ◌-◌, ◌≤◌, ◌≡◌, refl, ◌⊎◌, Bool, true, false, ◌||◌, eqb}
use Rattle.std.proofs.Common.{le_refl, le_trans, le_of_eq, arith, ◌∙◌, inl, inr, eqb-true, eq-eqb}
use Rattle.std.proofs.Math.Decide.{dec_le}
use Rattle.model.specs.Galley.{Sides, Galley, Place, count, Block, Sane}
use Rattle.model.specs.Leaf.{leaf, ends}
use Rattle.model.specs.Rules.{cited}
use Rattle.model.specs.Pagination.{Map}
use Rattle.model.proofs.laws.Gather.{or_left, or_right, or_cases}
use Rattle.model.proofs.laws.Leaf.{leaf_next, leaf_mono, leaf_after}
use Rattle.theorems.specs.turns.Costs.{cite_mono}
use Rattle.theorems.specs.published.Heights.{After}
use Rattle.theorems.specs.published.Keeping.{cited_at, cited_of}

-- From page q on there is a page of the same leaf that ends it or is the last, page p.
leaf_end : (sides : Sides) (d q p : ℕ) → p ≡ q + d
    → (e : ℕ) × (q ≤ e) × (e ≤ p) × (ends sides e || eqb e p ≡ true) × (leaf sides e ≡ leaf sides q)
leaf_end sides zero q p h = (q, le_refl q, (omega arith), or_right (ends sides q) (eq-eqb q p (omega arith)), refl)
leaf_end sides (suc d) q p h = go (ends sides q) refl (leaf_end sides d (suc q) p (omega arith))
  where
    go : (b : Bool) → ends sides q ≡ b
        → (e : ℕ) × (suc q ≤ e) × (e ≤ p) × (ends sides e || eqb e p ≡ true) × (leaf sides e ≡ leaf sides (suc q))
        → (e : ℕ) × (q ≤ e) × (e ≤ p) × (ends sides e || eqb e p ≡ true) × (leaf sides e ≡ leaf sides q)
    go true b r = (q, le_refl q, (omega arith), or_left (eqb q p) b, refl)
    go false b r =
        let later = r.1 in
        let same : leaf sides (suc q) ≡ leaf sides q = leaf_next sides q ∙ rw b (omega arith) in
        (r.0, (omega arith), r.2, r.3, r.4 ∙ same)

module _ (g : Galley) (sane : Sane g) (p : ℕ) (w : ℕ → Place) (P : Map) (after : (q : ℕ) → q ≤ p → After g P q (w q)) where
  -- Rule 17 on each page gives the fourth constraint.
  pub fourth_of : ((e : ℕ) → 1 ≤ e → e ≤ p → cited g e (eqb e p) (w e) ≡ true)
      → (s k : ℕ) → 1 ≤ s → Block g s k → 1 ≤ P s k → P s k ≤ p
      → leaf g.spec.sides (P 0 ((g.stream s).cite k)) ≤ leaf g.spec.sides (P s k)
  fourth_of rule s k a b lo hi =
      let end = leaf_end g.spec.sides (p - P s k) (P s k) p (omega arith) in
      let e = end.0 in
      let from = end.1 in
      let upto = end.2 in
      let F = after e upto s b.stream in
      let j = count (w e) s in
      let first = b.first in
      let placed = F.late k first b.last from in
      let last : Block g s j = omega arith in
      let line = cited_at g e (eqb e p) (w e) (rule e (omega arith) upto) end.3 s a b.stream last.first in
      let before = le_trans (cite_mono g sane s k j a first placed last) line in
      let page = (after e upto 0 (omega arith)).early ((g.stream s).cite k) (sane.cites s k a b).first before in
      le_trans (leaf_mono g.spec.sides (P 0 ((g.stream s).cite k)) e page) (le_of_eq end.4)

  -- The fourth constraint gives rule 17 on each page.
  pub cited_on : ((s k : ℕ) → 1 ≤ s → Block g s k
      → leaf g.spec.sides (P 0 ((g.stream s).cite k)) ≤ leaf g.spec.sides (P s k))
      → ((k : ℕ) → Block g 0 k → P 0 k ≤ p)
      → (e : ℕ) → 1 ≤ e → e ≤ p → cited g e (eqb e p) (w e) ≡ true
  cited_on fourth into e a b = cited_of g e (eqb e p) (w e) (λ t s c d l. line t s c (let top = (after e b s d).top in omega arith))
    where
      sides : Sides
      sides = g.spec.sides

      page : ends sides e || eqb e p ≡ true → (r : ℕ) → r ≤ p → leaf sides r ≤ leaf sides e → r ≤ e
      page t r upto l = go (or_cases (ends sides e) (eqb e p) t) (dec_le r e)
        where
          go : (ends sides e ≡ true) ⊎ (eqb e p ≡ true) → Dec (r ≤ e) → r ≤ e
          go x (yes m) = m
          go (inl x) (no m) = absurd (let later = leaf_after sides e r x (omega arith) in omega arith)
          go (inr x) (no m) = let is = eqb-true e p x in omega arith

      line : ends sides e || eqb e p ≡ true → (s : ℕ) → 1 ≤ s → Block g s (count (w e) s)
          → (g.stream s).cite (count (w e) s) ≤ count (w e) 0
      line t s c here =
          let j = count (w e) s in
          let cites = sane.cites s j c here in
          let leaves = leaf_mono sides (P s j) e ((after e b s here.stream).early j here.first (le_refl j)) in
          (after e b 0 (omega arith)).late ((g.stream s).cite j) cites.first cites.last
          (page t (P 0 ((g.stream s).cite j)) (into ((g.stream s).cite j) cites) (le_trans (fourth s j c here) leaves))
