-- The turns of a book are those of its chapters, and between two chapters one more unless the page before and the page after face each
-- other.
use Rattle.std.specs.Prelude.{ℕ, ◌+◌, ◌-◌, ◌*◌, ◌≤◌, ◌≡◌, Bool, true, false}
use Rattle.std.proofs.Math.Nat.{mul-add, mul-zero}
use native.Mathlib.Omega.{arith}
use Rattle.std.proofs.Math.Path.{refl, ap}
use Rattle.std.proofs.Common.{◌∙◌}
use mathlib.Core.List.{List, [], ◌∷◌, reverse_aux}
use Rattle.std.proofs.Math.ListN.{length}
use Rattle.model.specs.Gather.{pick, one}
use Rattle.model.specs.Galley.{Sides, single, double, Galley, Place}
use Rattle.model.specs.Leaf.{leaf, ends}
use Rattle.model.specs.Turns.{x_of, y_of, turns}
use Rattle.model.specs.Best.{valid}
use Rattle.model.specs.Book.{sides_on, open_on, Choice, choices, book_pages, book_x, book_y, book_turns}
use Rattle.model.proofs.laws.Leaf.{leaf_next, leaf_mono}
use Rattle.model.specs.laws.Lists.{◌∈◌}
use Rattle.model.proofs.laws.Valid.{valid_accepted}
use Rattle.theorems.specs.books.Backward.{pages_in, Chosen, sum_back, chosen_front, sum_front, pages_sum}

-- A chapter with the weights and the sidedness of another, whatever their folios: what 29 asks of a later chapter (document 02, S-9).
pub record Alike (h g : Galley) : Type 0 where
  pub alpha : g.spec.alpha ≡ h.spec.alpha
  pub beta : g.spec.beta ≡ h.spec.beta
  pub sides : (n : ℕ) → sides_on n g.spec.sides ≡ sides_on n h.spec.sides

-- The turns of a choice, the last chapter's list first, by the weights and the sidedness of one of the chapters.
unfoldable pub turns_back : Galley → ℕ → List Galley → Choice → ℕ
turns_back h f rs cs =
    h.spec.alpha * sum_back x_of f rs cs
    + h.spec.beta * (leaf (sides_on f h.spec.sides) (pages_in cs) - leaf (sides_on f h.spec.sides) 1)

-- There is no chapter.
abbrev pub no_chapter : List Galley → Bool
no_chapter [] = true
no_chapter (g ∷ gs) = false

-- No chapter has no turns.
pub turns_none : (h : Galley) (f : ℕ) → turns_back h f [] [] ≡ 0
unfolding turns_back sum_back pages_in
turns_none h f =
    let up = leaf_mono (sides_on f h.spec.sides) 0 1 (omega arith) in
    let y : leaf (sides_on f h.spec.sides) 0 - leaf (sides_on f h.spec.sides) 1 ≡ 0 = omega arith in
    let zero = ap (λ n. h.spec.beta * n) y ∙ mul-zero h.spec.beta in
    let none = mul-zero h.spec.alpha in
    omega arith

-- What is turned between two chapters, of which the second opens on folio n; before the first nothing is (document 02, S-9).
unfoldable pub crossing : Galley → Bool → ℕ → ℕ
crossing h first n = pick first 0 (h.spec.beta * one (ends (sides_on n h.spec.sides) 0))

-- The leaves of a chapter that opens after P pages are the book's, moved on.
pub record Moved (s : Sides) (f P : ℕ) : Type 0 where
  pub by : ℕ
  pub leaves : (q : ℕ) → leaf (sides_on f s) (P + q) ≡ leaf (sides_on (f + P) s) q + by

moved : (s : Sides) (f P : ℕ) → 1 ≤ f → Moved s f P
unfolding sides_on leaf
moved single f P some = record { by = P; leaves = λ q. omega arith }
moved (double e) f P some = record { by = 0; leaves = λ q. omega arith }

-- A valid list has a page.
pub some_page : (g : Galley) (ps : List Place) → ps ∈ valid g → 1 ≤ length ps
some_page g ps m = let a = ((valid_accepted g ps).0 m).some in omega arith

-- A choice for a chapter and more has a page.
pub chosen_pages : (f : ℕ) (g : Galley) (rs : List Galley) (cs : Choice) → Chosen f (g ∷ rs) cs → 1 ≤ pages_in cs
unfolding Chosen pages_in
chosen_pages f g rs [] c = absurd c
chosen_pages f g rs (ps ∷ cs) c = let a = some_page _ ps c.0 in omega arith

-- The leaves of a book, split before its last chapter of q pages: those up to P, the crossing, and those of the chapter.
leaves_after : (s : Sides) (f P q : ℕ) → 1 ≤ f → 1 ≤ P → 1 ≤ q
    → leaf (sides_on f s) (P + q) - leaf (sides_on f s) 1
    ≡ (leaf (sides_on f s) P - leaf (sides_on f s) 1) + one (ends (sides_on (f + P) s) 0)
    + (leaf (sides_on (f + P) s) q - leaf (sides_on (f + P) s) 1)
leaves_after s f P q some page pages =
    let m = moved s f P some in
    let all = m.leaves q in
    let here = m.leaves 0 in
    let at = ap (leaf (sides_on f s)) (plain P) in
    let next = leaf_next (sides_on (f + P) s) 0 in
    let up = leaf_mono (sides_on f s) 1 P page in
    let more = leaf_mono (sides_on (f + P) s) 1 q pages in
    omega arith
  where
    plain : (P : ℕ) → P + 0 ≡ P
    plain P = omega arith

-- Before the first chapter there are none.
leaves_first : (s : Sides) (f q : ℕ) → 1 ≤ f
    → leaf (sides_on f s) (0 + q) - leaf (sides_on f s) 1 ≡ leaf (sides_on (f + 0) s) q - leaf (sides_on (f + 0) s) 1
leaves_first s f q some = grind arith

module _ (h : Galley) (f : ℕ) (some : 1 ≤ f) where
  -- A chapter's own turns, by the weights that all share.
  own : (g : Galley) (n : ℕ) (ps : List Place) → Alike h g
      → turns (open_on n g) ps
      ≡ h.spec.alpha * x_of (open_on n g) ps
      + h.spec.beta * (leaf (sides_on n h.spec.sides) (length ps) - leaf (sides_on n h.spec.sides) 1)
  unfolding turns y_of open_on
  own g n ps a = rw (a.alpha, a.beta, a.sides n) refl

  -- One more chapter adds its turns and those between it and the chapter before.
  pub turns_next : (g : Galley) (rs : List Galley) (ps : List Place) (cs : Choice) → Alike h g → Chosen f (g ∷ rs) (ps ∷ cs)
      → turns_back h f (g ∷ rs) (ps ∷ cs)
      ≡ turns_back h f rs cs + crossing h (no_chapter rs) (f + pages_in cs) + turns (open_on (f + pages_in cs) g) ps
  unfolding Chosen turns_back sum_back pages_in crossing
  turns_next g [] ps [] a c =
      let mine = own g (f + 0) ps a in
      let leaves = ap (λ n. h.spec.beta * n) (leaves_first h.spec.sides f (length ps) some) in
      let x = mul-add h.spec.alpha 0 (x_of (open_on (f + 0) g) ps) in
      let y : leaf (sides_on f h.spec.sides) 0 - leaf (sides_on f h.spec.sides) 1 ≡ 0 =
      let up = leaf_mono (sides_on f h.spec.sides) 0 1 (omega arith) in omega arith in
      let zero = ap (λ n. h.spec.beta * n) y ∙ mul-zero h.spec.beta in
      omega arith
  turns_next g [] ps (qs ∷ cs) a c = absurd c.1
  turns_next g (g' ∷ rs) ps cs a c =
      let P = pages_in cs in
      let n = f + pages_in cs in
      let mine = own g n ps a in
      let before = leaf (sides_on f h.spec.sides) P - leaf (sides_on f h.spec.sides) 1 in
      let turn = one (ends (sides_on n h.spec.sides) 0) in
      let after = leaf (sides_on n h.spec.sides) (length ps) - leaf (sides_on n h.spec.sides) 1 in
      let leaves =
      ap (λ n. h.spec.beta * n)
      (leaves_after h.spec.sides f P (length ps) some (chosen_pages f g' rs cs c.1) (some_page _ ps c.0)) in
      let y = mul-add h.spec.beta (before + turn) after in
      let y' = mul-add h.spec.beta before turn in
      let x = mul-add h.spec.alpha (sum_back x_of f (g' ∷ rs) cs) (x_of (open_on n g) ps) in
      omega arith

  -- The turns of a book are its turns read backwards.
  pub turns_front : (gs : List Galley) (cs : Choice) → cs ∈ choices f (h ∷ gs)
      → book_turns f (h ∷ gs) cs ≡ turns_back h f (reverse_aux (h ∷ gs) []) (reverse_aux cs [])
  unfolding book_turns book_x book_y book_pages turns_back
  turns_front gs cs m =
      let pages = sum_front f (h ∷ gs) (λ g ps. length ps) cs m ∙ pages_sum f _ _ (chosen_front f (h ∷ gs) cs m) in
      rw (sum_front f (h ∷ gs) x_of cs m, pages) refl
