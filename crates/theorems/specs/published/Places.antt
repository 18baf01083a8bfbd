-- The places along a page list, and the map that such a list stands for.
use Prim.Native.Nat.{ℕ, zero, suc, ◌+◌, ◌≤◌, ◌<◌}
use Rattle.std.proofs.Common.{le_trans, ap₂, leb-true, leb-false}
use native.Mathlib.Omega.{arith}
use Rattle.std.specs.Prelude.{◌≡◌, refl, ◌↔◌, Bool, true, false, length, leb, eqb}
use mathlib.Core.List.{List, [], ◌∷◌}
use Rattle.std.proofs.Math.Dec.{eqb-zero-suc, eqb-suc-suc}
use Rattle.model.specs.Gather.{pick}
use Rattle.model.specs.Galley.{Galley, Place, count}
use Rattle.model.specs.Answers.{ended}
use Rattle.model.specs.Turns.{page_of}
use Rattle.model.specs.Best.{Allowed}
use Rattle.model.specs.Pagination.{Map, place_on, list_on}
use Rattle.model.proofs.laws.Gather.{and_left, and_right}
use Rattle.model.specs.laws.Judge.{accepts}
use Rattle.model.specs.laws.Words.{Shaped}
use Rattle.model.proofs.laws.Valid.{same_true}

-- The place after i pages of a list that starts at u.
unfoldable pub place_at : Place → List Place → ℕ → Place
place_at u vs zero = u
place_at u [] (suc i) = u
place_at u (v ∷ vs) (suc i) = place_at v vs i

pub shaped_at : (k : ℕ) (u : Place) (vs : List Place) → Shaped k vs → (i : ℕ) → i < length vs
    → length (place_at u vs (suc i)) ≡ k
unfolding place_at
shaped_at k u [] h i b = absurd (omega arith)
shaped_at k u (v ∷ vs) h zero b = h.0
shaped_at k u (v ∷ vs) h (suc i) b = shaped_at k v vs h.1 i (omega arith)

module _ (ok : Allowed) (l : Place) where
  ended_is : (vs : List Place) → ended vs ≡ eqb 1 (suc (length vs))
  ended_is [] = refl
  ended_is (v ∷ vs) = rw (eqb-suc-suc, eqb-zero-suc)

  -- Of an accepted list each page is allowed, and the place after all of them is the full one.
  pub accepts_page : (q : ℕ) (u : Place) (ps : List Place) → accepts ok l q u ps ≡ true → (i j : ℕ) → j ≡ q + i
      → i < length ps → ok j (eqb (suc i) (length ps)) (place_at u ps i) (place_at u ps (suc i)) ≡ true
  unfolding accepts place_at
  accepts_page q u [] h i j e b = absurd (omega arith)
  accepts_page q u (v ∷ vs) h zero j e b =
      let is : j ≡ q = omega arith in
      rw (is, ← ended_is vs) (and_left (ok q (ended vs) u v) (accepts ok l (suc q) v vs) h)
  accepts_page q u (v ∷ vs) h (suc i) j e b =
      let after = and_right (ok q (ended vs) u v) (accepts ok l (suc q) v vs) h in
      rw eqb-suc-suc (accepts_page (suc q) v vs after i j (omega arith) (omega arith))

  pub accepts_end : (q : ℕ) (u : Place) (ps : List Place) → accepts ok l q u ps ≡ true → place_at u ps (length ps) ≡ l
  unfolding accepts place_at
  accepts_end q u [] h = same_true u l h
  accepts_end q u (v ∷ vs) h = accepts_end (suc q) v vs (and_right (ok q (ended vs) u v) (accepts ok l (suc q) v vs) h)

-- The page that places a block is one of those pages or follows them.
page_from : (s k q : ℕ) (vs : List Place) → q ≤ page_of s k q vs
unfolding page_of
page_from s k q [] = omega arith
page_from s k q (v ∷ vs) = go (leb k (count v s)) (page_from s k (suc q) vs)
  where
    go : (b : Bool) → suc q ≤ page_of s k (suc q) vs → q ≤ pick b q (page_of s k (suc q) vs)
    go true l = omega arith
    go false l = omega arith

-- What rises from page to page is never below its first value.
rises : (c : ℕ → ℕ) (p : ℕ) → ((i : ℕ) → i < p → c i ≤ c (suc i)) → (i : ℕ) → i ≤ p → c 0 ≤ c i
rises c p up zero b = omega arith
rises c p up (suc i) b = le_trans (rises c p up i (omega arith)) (up i b)

-- Where counts rise along a list, a block that is not placed before it is counted after i pages exactly where the page that
-- places it is one of those.
pub page_reached : (s k q : ℕ) (u : Place) (vs : List Place)
    → ((i : ℕ) → i < length vs → count (place_at u vs i) s ≤ count (place_at u vs (suc i)) s) → count u s < k
    → (i : ℕ) → i ≤ length vs → (k ≤ count (place_at u vs i) s) ↔ (page_of s k (suc q) vs ≤ q + i)
unfolding place_at page_of
page_reached s k q u vs up l zero b =
    let from = page_from s k (suc q) vs in
    (λ m. absurd (omega arith), λ m. absurd (omega arith))
page_reached s k q u [] up l (suc i) b = absurd (omega arith)
page_reached s k q u (v ∷ vs) up l (suc i) b =
    go (leb k (count v s)) refl (λ m. page_reached s k (suc q) v vs (λ i c. up (suc i) (omega arith)) m i (omega arith))
  where
    go : (t : Bool) → leb k (count v s) ≡ t
        → (count v s < k → (k ≤ count (place_at v vs i) s) ↔ (page_of s k (suc (suc q)) vs ≤ suc q + i))
        → (k ≤ count (place_at v vs i) s) ↔ (pick t (suc q) (page_of s k (suc (suc q)) vs) ≤ q + suc i)
    go true e below =
        let here = leb-true k (count v s) e in
        let on = rises (λ i. count (place_at v vs i) s) (length vs) (λ i c. up (suc i) (omega arith)) i (omega arith) in
        (λ m. omega arith, λ m. omega arith)
    go false e below =
        let r = below (leb-false k (count v s) e) in
        (λ m. let x = r.0 m in omega arith, λ m. r.1 (omega arith))

-- A list is the list of a map where the places after its pages are.
pub list_is : (g : Galley) (P : Map) (q : ℕ) (u : Place) (vs : List Place)
    → ((i j : ℕ) → j ≡ q + i → i < length vs → place_on g P j ≡ place_at u vs (suc i)) → list_on g P (length vs) q ≡ vs
unfolding list_on place_at
list_is g P q u [] h = refl
list_is g P q u (v ∷ vs) h =
    ap₂ ◌∷◌ (h 0 q (omega arith) (omega arith))
    (list_is g P (suc q) v vs (λ i j e b. h (suc i) j (omega arith) (omega arith)))
