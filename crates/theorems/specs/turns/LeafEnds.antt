-- X and Y of a list by the pages that end their leaf: one stream at a time, and streams added.
use Rattle.std.specs.Prelude.{ℕ, suc, ◌+◌, ◌*◌, ◌≤◌, ◌≡◌, refl, Bool, true, false, ◌&&◌, List, [], ◌∷◌, length, leb, ltb}
use Rattle.std.proofs.Common.{arith, ◌∙◌, ap}
use Rattle.model.specs.Gather.{pick, one, sum}
use Rattle.model.specs.Galley.{Sides, Galley, Place, Block, count}
use Rattle.model.specs.Leaf.{leaf, ends}
use Rattle.model.specs.Turns.{page_of, apart, x_of, y_of}
use Rattle.model.specs.Answers.{ended}
use Rattle.model.proofs.laws.Gather.{sum_ext, sum_zero, sum_add}
use Rattle.model.proofs.laws.Leaf.{leaf_mono}
use Rattle.theorems.specs.turns.Waiting.{dangles, waiting_in, waiting, page_sum, at_end, turned}
use Rattle.theorems.specs.turns.Pages.{Along, along, page_sum_ext, page_sum_mix}
use Rattle.theorems.specs.turns.Leaves.{missing, Rises, leaf_of_page, leaf_of_last}

-- A page on which no count falls and which, where it ends its leaf, leaves no float placed before the line that cites it.
pub record Orderly (g : Galley) (q : ℕ) (last : Bool) (u v : Place) : Type 0 where
  pub rises : (s : ℕ) → s ≤ g.floats → count u s ≤ count v s
  pub heeds : ends g.spec.sides q ≡ true → (s k : ℕ) → 1 ≤ s → Block g s k → k ≤ count v s
      → (g.stream s).cite k ≤ count v 0

-- Where no more is placed than cited, what is not placed is either not cited, or cited and waiting, and never both.
split : (placed k done line : ℕ) → (k ≤ placed → line ≤ done)
    → one (ltb placed k) ≡ one (ltb done line) + one (ltb placed k && leb line done)
split placed k done line h = go (ltb placed k) (leb line done) refl refl
  where
    go : (x y : Bool) → ltb placed k ≡ x → leb line done ≡ y → one x ≡ one (ltb done line) + one (x && y)
    go x y e f = grind arith

-- A float's leaf is its citation's and one more for each page that ends its leaf while the float dangles.
pub leaf_of_float : (g : Galley) (s k q : ℕ) (u : Place) (ps : List Place) → 1 ≤ s → Block g s k → Along (Orderly g) q u ps
    → leaf g.spec.sides (page_of s k q ps)
    ≡ leaf g.spec.sides (page_of 0 ((g.stream s).cite k) q ps)
    + page_sum (at_end g.spec.sides (λ v. one (dangles g s k v))) q ps
unfolding at_end missing dangles
leaf_of_float g s k q u ps h b a =
    let float = leaf_of_page g.spec.sides s k q u ps (rising s b.stream) in
    let citation = leaf_of_page g.spec.sides 0 line q u ps (rising 0 (omega arith)) in
    let both = page_sum_mix 1 1 uncited dangling q ps in
    let parts = page_sum_ext (Orderly g) unplaced (λ q last v. 1 * uncited q last v + 1 * dangling q last v) at q u ps a in
    omega arith
  where
    line : ℕ
    line = (g.stream s).cite k

    unplaced : ℕ → Bool → Place → ℕ
    unplaced = at_end g.spec.sides (missing s k)

    uncited : ℕ → Bool → Place → ℕ
    uncited = at_end g.spec.sides (missing 0 line)

    dangling : ℕ → Bool → Place → ℕ
    dangling = at_end g.spec.sides (λ v. one (dangles g s k v))

    rising : (i : ℕ) → i ≤ g.floats → Along (Rises i) q u ps
    rising i l = along (Orderly g) (Rises i) (λ q last u v o. o.rises i l) q u ps a

    by_end : (v : Place) (e : Bool) → (e ≡ true → k ≤ count v s → line ≤ count v 0)
        → pick e (missing s k v) 0 ≡ 1 * pick e (missing 0 line v) 0 + 1 * pick e (one (dangles g s k v)) 0
    by_end v true i = let m = split (count v s) k (count v 0) line (i refl) in omega arith
    by_end v false i = refl

    at : (q : ℕ) (last : Bool) (u v : Place) → Orderly g q last u v
        → unplaced q last v ≡ 1 * uncited q last v + 1 * dangling q last v
    at q last u v o = by_end v (ends g.spec.sides q) (λ e. o.heeds e s k h b)

-- Sums at leaf ends may be taken in either order.
ends_swap : (sides : Sides) (n : ℕ) (f : ℕ → Place → ℕ) (q : ℕ) (ps : List Place)
    → sum n (λ k. page_sum (at_end sides (f k)) q ps) ≡ page_sum (at_end sides (λ v. sum n (λ k. f k v))) q ps
unfolding page_sum at_end
ends_swap sides n f q [] = sum_zero n
ends_swap sides n f q (v ∷ vs) =
    let first = sum_add n (λ k. at_end sides (f k) q (ended vs) v) (λ k. page_sum (at_end sides (f k)) (suc q) vs) in
    let here = go (ends sides q) in
    let after = ends_swap sides n f (suc q) vs in
    omega arith
  where
    go : (b : Bool) → sum n (λ k. pick b (f k v) 0) ≡ pick b (sum n (λ k. f k v)) 0
    go true = refl
    go false = sum_zero n

-- X of one stream: at each page that ends its leaf, the floats of the stream that wait there.
pub stream_by_ends : (g : Galley) (s : ℕ) (u : Place) (ps : List Place) → 1 ≤ s → s ≤ g.floats → Along (Orderly g) 1 u ps
    → sum (g.stream s).size (apart g ps s) ≡ page_sum (at_end g.spec.sides (waiting_in g s)) 1 ps
unfolding apart waiting_in
stream_by_ends g s u ps h t a =
    sum_ext (g.stream s).size _ _ (λ k p q. is k (record { stream = t; first = p; last = q }))
    ∙ ends_swap g.spec.sides (g.stream s).size (λ k v. one (dangles g s k v)) 1 ps
  where
    is : (k : ℕ) → Block g s k → apart g ps s k ≡ page_sum (at_end g.spec.sides (λ v. one (dangles g s k v))) 1 ps
    is k b = let law = leaf_of_float g s k 1 u ps h b a in omega arith

-- X: at each page that ends its leaf, the floats that wait there.
pub x_by_ends : (g : Galley) (u : Place) (ps : List Place) → Along (Orderly g) 1 u ps
    → x_of g ps ≡ page_sum (at_end g.spec.sides (waiting g)) 1 ps
unfolding x_of waiting
x_by_ends g u ps a =
    sum_ext g.floats _ _ (λ s p q. stream_by_ends g s u ps p q a)
    ∙ ends_swap g.spec.sides g.floats (waiting_in g) 1 ps

-- Y: the pages, other than the last, that end their leaf.
pub y_by_ends : (g : Galley) (ps : List Place) → y_of g ps ≡ page_sum (turned g.spec.sides) 1 ps
unfolding y_of page_sum
y_by_ends g [] = let first = leaf_mono g.spec.sides 0 1 (omega arith) in omega arith
y_by_ends g (v ∷ vs) =
    let law = leaf_of_last g.spec.sides 1 v vs in
    let e : 1 + length vs ≡ suc (length vs) = omega arith in
    let at = ap (leaf g.spec.sides) e in
    omega arith
