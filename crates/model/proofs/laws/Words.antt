-- A page list's words and its places say the same: k words to a place, both ways without loss.
use Prim.Native.Nat.{ℕ, zero, suc, ◌*◌, ◌/◌, ◌%◌, ◌≤◌, ◌<◌}
use Rattle.std.proofs.Math.Nat.{suc-mul, zero-mul, mul-div_cancel, div-add-mod', mul_comm, mul-mod_left, le_of_mul-le-mul_right}
use Rattle.std.proofs.Common.{mul-le-mul_left, sym, ◌∙◌, subst, length-append, length-drop, take-append-drop, length-take-le, take_at, drop_at}
use native.Mathlib.Omega.{arith}
use Rattle.std.specs.Prelude.{◌≡◌, refl, true, ◌&&◌, List, [], ◌∷◌, ◌++◌, take, drop}
use Rattle.std.proofs.Math.Path.{ap}
use Rattle.std.proofs.Math.Bool.{Bool}
use Rattle.std.proofs.Math.ListN.{length}
use Rattle.std.proofs.Math.Dec.{leb, ltb, eqb}
use borrow.Author.Tests.{eqb-true, eq-eqb, leb-true, le-leb, ltb-true, lt-ltb}
use Rattle.model.specs.Galley.{Galley, Place, streams, blocks}
use Rattle.model.specs.Answers.{chunks, pages_of, words_of, counted}
use Rattle.model.proofs.laws.Gather.{and_left, and_right, and_both}
use Rattle.model.specs.laws.Words.{Shaped}

pub length_chunks : (p k : ℕ) (ws : List ℕ) → length (chunks p k ws) ≡ p
unfolding chunks
length_chunks zero k ws = refl
length_chunks (suc p) k ws = ap suc (length_chunks p k (drop k ws))

dropped : (p k : ℕ) (ws : List ℕ) → length ws ≡ suc p * k → length (drop k ws) ≡ p * k
dropped p k ws h = let e = suc-mul p k in simp length-drop (omega arith)

pub chunks_shaped : (p k : ℕ) (ws : List ℕ) → length ws ≡ p * k → Shaped k (chunks p k ws)
unfolding chunks
chunks_shaped zero k ws h = tt
chunks_shaped (suc p) k ws h =
    let e = suc-mul p k in
    (length-take-le k ws (omega arith), chunks_shaped p k (drop k ws) (dropped p k ws h))

-- The words of the chunks are the words.
pub words_chunks : (p k : ℕ) (ws : List ℕ) → length ws ≡ p * k → words_of (chunks p k ws) ≡ ws
unfolding chunks words_of
words_chunks zero k [] h = refl
words_chunks zero k (w ∷ ws) h = let e = zero-mul k in absurd (omega arith)
words_chunks (suc p) k ws h =
    ap (λ r. take k ws ++ r) (words_chunks p k (drop k ws) (dropped p k ws h)) ∙ take-append-drop k ws

-- The chunks of the words of places are the places.
pub chunks_words : (k : ℕ) (vs : List Place) → Shaped k vs → chunks (length vs) k (words_of vs) ≡ vs
unfolding chunks words_of
chunks_words k [] h = refl
chunks_words k (v ∷ vs) h =
    rw (take_at v (words_of vs) k h.0, drop_at v (words_of vs) k h.0) (ap (λ r. v ∷ r) (chunks_words k vs h.1))

pub length_words : (k : ℕ) (vs : List Place) → Shaped k vs → length (words_of vs) ≡ length vs * k
unfolding words_of
length_words k [] h = sym (zero-mul k)
length_words k (v ∷ vs) h =
    let here = h.0 in
    let after = length_words k vs h.1 in
    let both = length-append v (words_of vs) in
    let e = suc-mul (length vs) k in
    omega arith

module _ (g : Galley) where
  -- What rule 12 says of a list of words: whole pages, at least one and no more than there are blocks.
  pub record WholePages (ws : List ℕ) : Type 0 where
    pub whole : length ws ≡ length ws / streams g * streams g
    pub some : 0 < length ws / streams g
    pub few : length ws / streams g ≤ blocks g

  pub counted_at : (ws : List ℕ) → counted g ws ≡ true → WholePages ws
  unfolding counted streams
  counted_at ws h =
      let k = suc g.floats in
      let a : Bool = ltb 0 (length ws) in
      let b : Bool = eqb (length ws % k) 0 in
      let c : Bool = leb (length ws) (k * blocks g) in
      let ab = and_left (a && b) c h in
      let l = ltb-true 0 (length ws) (and_left a b ab) in
      let r = eqb-true (length ws % k) 0 (and_right a b ab) in
      let m = leb-true (length ws) (k * blocks g) (and_right (a && b) c h) in
      let d = div-add-mod' (length ws) k in
      let whole : length ws ≡ length ws / k * k = omega arith in
      record {
        whole = whole;
        some = positive (length ws / k) k whole l;
        few = le_of_mul-le-mul_right {k = k} (subst (λ n. n ≤ blocks g * k) whole (subst (λ n. length ws ≤ n) (mul_comm k (blocks g)) m)) (omega arith);
      }
    where
      positive : (p k : ℕ) → length ws ≡ p * k → 0 < length ws → 0 < p
      positive zero k e l = let z = zero-mul k in absurd (omega arith)
      positive (suc p) k e l = omega arith

  -- The pages of a counted list: as many as its words make, each of the right length, and its words are the list's.
  pub length_pages : (ws : List ℕ) → length (pages_of g ws) ≡ length ws / streams g
  unfolding pages_of
  length_pages ws = length_chunks (length ws / streams g) (streams g) ws

  pub pages_shaped : (ws : List ℕ) → counted g ws ≡ true → Shaped (streams g) (pages_of g ws)
  unfolding pages_of
  pages_shaped ws h = chunks_shaped (length ws / streams g) (streams g) ws (counted_at ws h).whole

  pub words_pages : (ws : List ℕ) → counted g ws ≡ true → words_of (pages_of g ws) ≡ ws
  unfolding pages_of
  words_pages ws h = words_chunks (length ws / streams g) (streams g) ws (counted_at ws h).whole

  -- The words of pages name the pages, and are counted where the pages are not too many.
  pub pages_words : (ps : List Place) → Shaped (streams g) ps → pages_of g (words_of ps) ≡ ps
  unfolding pages_of streams
  pages_words ps h =
      let e : length (words_of ps) / streams g ≡ length ps =
      ap (λ n. n / streams g) (length_words (streams g) ps h) ∙ mul-div_cancel (length ps) {n = suc g.floats} (omega arith) in
      ap (λ n. chunks n (streams g) (words_of ps)) e ∙ chunks_words (streams g) ps h

  pub counted_of : (ps : List Place) → Shaped (streams g) ps → 0 < length ps → length ps ≤ blocks g → counted g (words_of ps) ≡ true
  unfolding counted streams
  counted_of ps h l m =
      let k = suc g.floats in
      let e = length_words k ps h in
      and_both
      (and_both (lt-ltb _ _ (positive (length ps) l e)) (eq-eqb _ _ (ap (λ n. n % k) e ∙ mul-mod_left (length ps) k)))
      (le-leb _ _ (subst (λ n. n ≤ k * blocks g) (sym (e ∙ mul_comm (length ps) k)) (mul-le-mul_left k m)))
    where
      positive : (p : ℕ) → 0 < p → length (words_of ps) ≡ p * suc g.floats → 0 < length (words_of ps)
      positive zero l e = absurd (omega arith)
      positive (suc p) l e = let z = suc-mul p (suc g.floats) in omega arith
