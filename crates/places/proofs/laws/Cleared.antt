-- The work area after clearing: word by word, the same whatever was there before, and unreached throughout.
use Rattle.std.specs.Prelude.{◌≡◌, refl, List, [], ◌∷◌, ◌++◌, ℕ, zero, suc, ◌+◌, ◌-◌, ◌<◌, ◌≤◌, length, get_or, set, take, drop, replicate, None}
use Rattle.std.proofs.Common.{append_assoc, drop-drop, sym, ◌∙◌, ap, le_of_suc-le-suc, not-suc-le-zero, add-one, arith, take-append-drop, length-append, length-drop, length-take, take_at, drop_at}
use Rattle.std.proofs.lemmas.List.{length-replicate, get_or-replicate, replicate-append-replicate, take-append-le}
use Rattle.std.proofs.Math.ListN.{get_or-append}
use borrow.Rule.Slice.PartMut.{put_mid}
use Rattle.places.specs.Entry.{stored, cleared}
use Rattle.places.proofs.laws.Stored.{stored_there}

-- One word more is cleared by a zero at the next offset.
pub cleared_next : (n : ℕ) (w : List ℕ) → n < length w → set (cleared n w) n 0 ≡ cleared (n + 1) w
unfolding cleared
cleared_next n w h = go n w h ∙ ap (λ (k : ℕ). cleared k w) (sym (add-one n))
  where
    go : (n : ℕ) (w : List ℕ) → n < length w → set (cleared n w) n 0 ≡ cleared (suc n) w
    go n [] h = absurd (not-suc-le-zero h)
    go zero (x ∷ w) h = refl
    go (suc n) (x ∷ w) h = ap (λ (l : List ℕ). 0 ∷ l) (go n w (le_of_suc-le-suc h))

-- Clearing forgets all but the words beyond.
pub cleared_forgets : (n : ℕ) (v w : List ℕ) → drop n v ≡ drop n w → cleared n v ≡ cleared n w
unfolding cleared
cleared_forgets n v w e = cc

-- It leaves those beyond,
pub cleared_beyond : (n : ℕ) (w : List ℕ) → drop n (cleared n w) ≡ drop n w
unfolding cleared
cleared_beyond n w = drop_at (replicate n 0) (drop n w) n (length-replicate {A = ℕ} n 0)

-- and keeps the length where the words are there.
pub cleared_length : (n : ℕ) (w : List ℕ) → n ≤ length w → length (cleared n w) ≡ length w
unfolding cleared
cleared_length n w h = omega (arith, length-append (replicate n 0) (drop n w), length-replicate {A = ℕ} n 0, length-drop n w)

-- The first of them are zeros,
pub cleared_first : (n k : ℕ) (w : List ℕ) → k ≤ n → take k (cleared n w) ≡ replicate k 0
unfolding cleared
cleared_first n k w l =
    let rest : k + (n - k) ≡ n = omega arith in
    let split = replicate-append-replicate {A = ℕ} k (n - k) 0 in
    let long : length (replicate {A = ℕ} k 0) ≡ k = length-replicate k 0 in
    take-append-le k (replicate n 0) (drop n w) (omega (arith, length-replicate {A = ℕ} n 0))
    ∙ ap (λ (l : List ℕ). take k l) (sym (rw rest at split))
    ∙ take_at (replicate k 0) (replicate (n - k) 0) k long

-- and words that are zeros need not be cleared.
pub cleared_already : (k : ℕ) (w : List ℕ) → take k w ≡ replicate k 0 → cleared k w ≡ w
unfolding cleared
cleared_already k w zeros = ap (λ (l : List ℕ). l ++ drop k w) (sym zeros) ∙ take-append-drop k w

-- Zeros written after them clear what is between.
pub cleared_filled : (from n : ℕ) (w ys : List ℕ) → from ≤ n → n ≤ length w → take from w ≡ replicate from 0
    → ys ≡ replicate (length (take (n - from) (drop from w))) 0 → put_mid from (n - from) w ys ≡ cleared n w
unfolding cleared
cleared_filled from n w ys l room zeros filled =
    let long : length (take (n - from) (drop from w)) ≡ n - from = omega (arith, length-take (n - from) (drop from w), length-drop from w) in
    let rest : from + (n - from) ≡ n = omega arith in
    rw (zeros, filled, long, drop-drop, ← append_assoc, replicate-append-replicate, rest) refl

-- A cleared word is 0,
cleared_zero : (n k : ℕ) (w : List ℕ) → k < n → get_or (cleared n w) k 0 ≡ 0
unfolding cleared
cleared_zero n k w l =
    get_or-append (replicate n 0) (drop n w) 0 k (omega (arith, length-replicate {A = ℕ} n 0)) ∙ get_or-replicate n k 0 0 l

-- so that a place among them is unreached, by all of its words.
pub cleared_empty : (n at : ℕ) (w : List ℕ) → at + 5 ≤ n → n ≤ length w → stored (cleared n w) at None ≡ cleared n w
cleared_empty n at w h room =
    stored_there (cleared n w) at None (omega (arith, cleared_length n w room))
    (λ d l. cleared_zero n (at + d) w (omega arith) ∙ sym (get_or-replicate 5 d 0 0 l))
