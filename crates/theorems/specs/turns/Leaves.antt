-- Leaves counted by the pages that end their leaf: one argument for single-sided and double-sided work.
use Rattle.std.specs.Prelude.{ℕ, suc, ◌+◌, ◌≤◌, ◌≡◌, refl, Bool, true, false, List, [], ◌∷◌, length, leb, ltb}
use Rattle.std.proofs.Common.{add-zero, arith, leb-true, leb-false, lt-ltb, le-ltb}
use Rattle.model.specs.Gather.{pick, one}
use Rattle.model.specs.Galley.{Sides, Place, count}
use Rattle.model.specs.Leaf.{leaf}
use Rattle.model.specs.Turns.{page_of}
use Rattle.model.specs.Answers.{ended}
use Rattle.model.proofs.laws.Leaf.{leaf_next}
use Rattle.theorems.specs.turns.Waiting.{page_sum, at_end, turned}
use Rattle.theorems.specs.turns.Pages.{About, Along}

-- 1 where block k of stream s is not yet placed, else 0.
unfoldable pub missing : ℕ → ℕ → Place → ℕ
missing s k v = one (ltb (count v s) k)

-- No count of stream s falls from page to page.
abbrev pub Rises : ℕ → About
Rises s q last u v = count u s ≤ count v s

-- What is picked from 0 and 0, and from 1 and 0.
pick_zero : (b : Bool) → ◌≡◌ {A = ℕ} (pick b 0 0) 0
pick_zero true = refl
pick_zero false = refl

pick_one : (b : Bool) → pick b 1 0 ≡ one b
pick_one true = refl
pick_one false = refl

-- A block once placed stays placed.
stays : (sides : Sides) (s k q : ℕ) (u : Place) (ps : List Place) → k ≤ count u s → Along (Rises s) q u ps
    → page_sum (at_end sides (missing s k)) q ps ≡ 0
unfolding page_sum at_end missing
stays sides s k q u [] h a = refl
stays sides s k q u (v ∷ vs) h a =
    let up = a.0 in
    let after = stays sides s k (suc q) v vs (omega arith) a.1 in
    simp (le-ltb (count v s) k (omega arith), pick_zero) (omega arith)

-- A block's leaf is as many leaves on as pages end their leaf without having placed it.
pub leaf_of_page : (sides : Sides) (s k q : ℕ) (u : Place) (ps : List Place) → Along (Rises s) q u ps
    → leaf sides (page_of s k q ps) ≡ leaf sides q + page_sum (at_end sides (missing s k)) q ps
unfolding page_sum page_of at_end missing
leaf_of_page sides s k q u [] a = omega arith
leaf_of_page sides s k q u (v ∷ vs) a = go (leb k (count v s)) refl (leaf_of_page sides s k (suc q) v vs a.1)
  where
    go : (b : Bool) → leb k (count v s) ≡ b
        → leaf sides (page_of s k (suc q) vs) ≡ leaf sides (suc q) + page_sum (at_end sides (missing s k)) (suc q) vs
        → leaf sides (pick b q (page_of s k (suc q) vs))
        ≡ leaf sides q + (at_end sides (missing s k) q (ended vs) v + page_sum (at_end sides (missing s k)) (suc q) vs)
    go true e after =
        let here = leb-true k (count v s) e in
        let none = stays sides s k (suc q) v vs here a.1 in
        simp (le-ltb (count v s) k here, pick_zero) (omega arith)
    go false e after =
        let next = leaf_next sides q in
        simp (lt-ltb (count v s) k (leb-false k (count v s) e), pick_one) (omega arith)

-- From the first page of a list to its last there are as many leaves as pages, other than the last, that end their leaf.
pub leaf_of_last : (sides : Sides) (q : ℕ) (v : Place) (vs : List Place)
    → leaf sides (q + length vs) ≡ leaf sides q + page_sum (turned sides) q (v ∷ vs)
unfolding page_sum turned
leaf_of_last sides q v [] = simp add-zero
leaf_of_last sides q v (w ∷ ws) =
    let next = leaf_next sides q in
    let after = leaf_of_last sides (suc q) w ws in
    let e : q + suc (length ws) ≡ suc q + length ws = omega arith in
    simp e (omega arith)
