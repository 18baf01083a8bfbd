-- The words after a store, and an entry after it: what was stored at its own place, and what was there before at every place apart.
use Rattle.std.specs.Prelude.{◌≡◌, refl, ◌⊎◌, List, [], ◌∷◌, ℕ, zero, suc, ◌+◌, ◌-◌, ◌<◌, ◌≤◌, length, get_or, set, take, drop, eqb, None, Some}
use Rattle.std.proofs.Common.{append_assoc, sym, ◌∙◌, ap, inl, inr, add-zero, arith, length-set, get_or-set_same, get_or-set_other, drop-set-lt, ext_get_or}
use Rattle.std.proofs.Math.Decide.{dec_lt, dec_le}
use Rattle.std.proofs.lemmas.List.{take-set-le}
use Rattle.std.proofs.lemmas.List.Edits.{sets, sets-eq, paste_all}
use lib.Seq.{paste}
use Rattle.std.proofs.Math.Seq.{length-sets}
use Rattle.places.specs.Entry.{Entry, least, low_of, high_of, joined, tagged, entry_at, words_of, stored}
use Rattle.places.specs.Address.{Apart}

-- An offset lies outside a run of so many words from another on.
abbrev Out : ℕ → ℕ → ℕ → Type 0
Out k at n = (k < at) ⊎ (at + n ≤ k)

-- A run of stores: the words outside it stay,
pub sets_out : (vs w : List ℕ) (at k : ℕ) → Out k at (length vs) → get_or (sets w at vs) k 0 ≡ get_or w k 0
sets_out [] w at k out = refl
sets_out (v ∷ vs) w at k out = sets_out vs (set w at v) (suc at) k (later out) ∙ get_or-set_other w at k v 0 (apart out)
  where
    later : Out k at (suc (length vs)) → Out k (suc at) (length vs)
    later (inl l) = inl (omega arith)
    later (inr l) = inr (omega arith)

    apart : Out k at (suc (length vs)) → k ≡ at → ⊥
    apart (inl l) e = omega arith
    apart (inr l) e = omega arith

-- those inside are what was stored,
pub sets_in : (vs w : List ℕ) (at k : ℕ) → k < length vs → at + length vs ≤ length w → get_or (sets w at vs) (at + k) 0 ≡ get_or vs k 0
sets_in [] w at k l h = absurd (omega arith)
sets_in (v ∷ vs) w at zero l h =
    let e : at + 0 ≡ at = omega arith in
    rw e (sets_out vs (set w at v) (suc at) at (inl (omega arith)) ∙ get_or-set_same w at v 0 (omega arith))
sets_in (v ∷ vs) w at (suc k) l h =
    let e : at + suc k ≡ suc at + k = omega arith in
    rw e (sets_in vs (set w at v) (suc at) k (omega arith) (omega (arith, length-set w at v)))

-- and those past it are as they were.
pub sets_drop : (vs w : List ℕ) (at n : ℕ) → at + length vs ≤ n → drop n (sets w at vs) ≡ drop n w
sets_drop [] w at n l = refl
sets_drop (v ∷ vs) w at n l = sets_drop vs (set w at v) (suc at) n (omega arith) ∙ drop-set-lt n w at v (omega arith)

-- So are those before it.
sets_take : (vs w : List ℕ) (at n : ℕ) → n ≤ at → take n (sets w at vs) ≡ take n w
sets_take [] w at n l = refl
sets_take (v ∷ vs) w at n l = sets_take vs (set w at v) (suc at) n (omega arith) ∙ take-set-le n w at v l

-- A row pasted whole is its words stored one by one.
pub pasted_sets : (words row : List ℕ) (at n : ℕ) → n ≡ length row → at + n ≤ length words → paste words at row n ≡ sets words at row
pasted_sets words row at n whole room =
    paste_all words at row n whole
    ∙ rw (whole, sets-eq row words at (omega (arith, whole))) (sym (append_assoc (take at words) row (drop (at + length row) words)))

-- An entry has five words.
pub words_five : (e : Entry) → length (words_of e) ≡ 5
words_five None = refl
words_five (Some l) = refl

-- A store leaves the length as it is.
pub stored_length : (w : List ℕ) (at : ℕ) (e : Entry) → length (stored w at e) ≡ length w
unfolding stored
stored_length w at e = length-sets w at (words_of e)

-- A store within the first n words leaves those beyond.
pub stored_beyond : (w : List ℕ) (at n : ℕ) (e : Entry) → at + 5 ≤ n → drop n (stored w at e) ≡ drop n w
unfolding stored
stored_beyond w at n e h = sets_drop (words_of e) w at n (omega (arith, words_five e))

-- A store past the first n words leaves these.
pub stored_past : (w : List ℕ) (at n : ℕ) (e : Entry) → n ≤ at → take n (stored w at e) ≡ take n w
unfolding stored
stored_past w at n e h = sets_take (words_of e) w at n h

module _ (w : List ℕ) (at : ℕ) (e : Entry) where
  stored_out : (k : ℕ) → Out k at 5 → get_or (stored w at e) k 0 ≡ get_or w k 0
  unfolding stored
  stored_out k out = let n = words_five e in sets_out (words_of e) w at k (rw n out)

  stored_in : (k : ℕ) → k < 5 → at + 5 ≤ length w → get_or (stored w at e) (at + k) 0 ≡ get_or (words_of e) k 0
  unfolding stored
  stored_in k l h = sets_in (words_of e) w at k (omega (arith, words_five e)) (omega (arith, words_five e))

-- A cost is its two words.
pub cost_joined : (cost : ℕ) → joined (low_of cost) (high_of cost) ≡ cost
cost_joined cost = omega arith

-- An entry is its five words,
words_entry : (e : Entry)
    → tagged (eqb (get_or (words_of e) 0 0) 1) (joined (get_or (words_of e) 1 0) (get_or (words_of e) 2 0))
    (record { line = get_or (words_of e) 3 0; column = get_or (words_of e) 4 0 }) ≡ e
words_entry None = refl
words_entry (Some l) = ap (λ x. least x l.start) (cost_joined l.cost)

-- so that what is stored at an offset is read there.
pub stored_same : (w : List ℕ) (at : ℕ) (e : Entry) → at + 5 ≤ length w → entry_at (stored w at e) at ≡ e
unfolding entry_at
stored_same w at e h =
    let a = ap (λ (k : ℕ). get_or (stored w at e) k 0) (sym (add-zero at)) ∙ stored_in w at e 0 (omega arith) h in
    let b = stored_in w at e 1 (omega arith) h in
    let c = stored_in w at e 2 (omega arith) h in
    let d = stored_in w at e 3 (omega arith) h in
    let f = stored_in w at e 4 (omega arith) h in
    rw (a, b, c, d, f) (words_entry e)

-- What is stored at an offset leaves every entry apart from it.
pub stored_other : (w : List ℕ) (at to : ℕ) (e : Entry) → Apart at to → entry_at (stored w at e) to ≡ entry_at w to
unfolding entry_at
stored_other w at to e apart =
    let a = stored_out w at e to (out apart to (omega arith) (omega arith)) in
    let b = stored_out w at e (to + 1) (out apart (to + 1) (omega arith) (omega arith)) in
    let c = stored_out w at e (to + 2) (out apart (to + 2) (omega arith) (omega arith)) in
    let d = stored_out w at e (to + 3) (out apart (to + 3) (omega arith) (omega arith)) in
    let f = stored_out w at e (to + 4) (out apart (to + 4) (omega arith) (omega arith)) in
    rw (a, b, c, d, f) refl
  where
    out : Apart at to → (k : ℕ) → to ≤ k → k < to + 5 → Out k at 5
    out (inl l) k m n = inr (omega arith)
    out (inr l) k m n = inl (omega arith)

-- A word is one of five from an offset on, or none of them.
where_is : (k at : ℕ) → Out k at 5 ⊎ ((d : ℕ) × (k ≡ at + d) × (d < 5))
where_is k at = go (dec_lt k at) (dec_le (at + 5) k)
  where
    go : Dec (k < at) → Dec (at + 5 ≤ k) → Out k at 5 ⊎ ((d : ℕ) × (k ≡ at + d) × (d < 5))
    go (yes p) q = inl (inl p)
    go (no p) (yes q) = inl (inr q)
    go (no p) (no q) = inr (k - at, omega arith, omega arith)

-- What is stored over is forgotten.
pub stored_twice : (w : List ℕ) (at : ℕ) (e f : Entry) → at + 5 ≤ length w → stored (stored w at e) at f ≡ stored w at f
stored_twice w at e f h =
    let n = stored_length w at e in
    ext_get_or 0 (stored (stored w at e) at f) (stored w at f) (stored_length (stored w at e) at f ∙ n ∙ sym (stored_length w at f))
    (λ k l. go k (where_is k at))
  where
    go : (k : ℕ) → Out k at 5 ⊎ ((d : ℕ) × (k ≡ at + d) × (d < 5)) → get_or (stored (stored w at e) at f) k 0 ≡ get_or (stored w at f) k 0
    go k (inl o) = stored_out (stored w at e) at f k o ∙ stored_out w at e k o ∙ sym (stored_out w at f k o)
    go k (inr (d, p, l)) =
        rw p (stored_in (stored w at e) at f d l (omega (arith, stored_length w at e)) ∙ sym (stored_in w at f d l h))

-- Stores apart from each other change places.
pub stored_swap : (w : List ℕ) (at to : ℕ) (e f : Entry) → Apart at to → at + 5 ≤ length w → to + 5 ≤ length w
    → stored (stored w at e) to f ≡ stored (stored w to f) at e
stored_swap w at to e f apart h h' =
    ext_get_or 0 (stored (stored w at e) to f) (stored (stored w to f) at e)
    (stored_length (stored w at e) to f ∙ stored_length w at e ∙ sym (stored_length w to f) ∙ sym (stored_length (stored w to f) at e))
    (λ k l. go k (where_is k at) (where_is k to))
  where
    never : (d c : ℕ) → Apart at to → at + d ≡ to + c → d < 5 → c < 5 → ⊥
    never d c (inl p) e l m = omega arith
    never d c (inr p) e l m = omega arith

    go : (k : ℕ) → Out k at 5 ⊎ ((d : ℕ) × (k ≡ at + d) × (d < 5)) → Out k to 5 ⊎ ((d : ℕ) × (k ≡ to + d) × (d < 5))
        → get_or (stored (stored w at e) to f) k 0 ≡ get_or (stored (stored w to f) at e) k 0
    go k (inl o) (inl p) =
        stored_out (stored w at e) to f k p ∙ stored_out w at e k o ∙ sym (stored_out w to f k p) ∙ sym (stored_out (stored w to f) at e k o)
    go k (inl o) (inr (d, p, l)) =
        let there = stored_in (stored w at e) to f d l (omega (arith, stored_length w at e)) ∙ sym (stored_in w to f d l h') in
        rw (← p) at there ∙ sym (stored_out (stored w to f) at e k o)
    go k (inr (d, p, l)) (inl o) =
        let here = stored_in w at e d l h ∙ sym (stored_in (stored w to f) at e d l (omega (arith, stored_length w to f))) in
        stored_out (stored w at e) to f k o ∙ rw (← p) at here
    go k (inr (d, p, l)) (inr (c, q, m)) = absurd (never d c apart (sym p ∙ q) l m)

-- Where the words of an entry are there already, to store it changes nothing.
pub stored_there : (w : List ℕ) (at : ℕ) (e : Entry) → at + 5 ≤ length w → ((d : ℕ) → d < 5 → get_or w (at + d) 0 ≡ get_or (words_of e) d 0)
    → stored w at e ≡ w
stored_there w at e h there = ext_get_or 0 (stored w at e) w (stored_length w at e) (λ k l. go k (where_is k at))
  where
    go : (k : ℕ) → Out k at 5 ⊎ ((d : ℕ) × (k ≡ at + d) × (d < 5)) → get_or (stored w at e) k 0 ≡ get_or w k 0
    go k (inl o) = stored_out w at e k o
    go k (inr (d, p, l)) = rw p (stored_in w at e d l h ∙ sym (there d l))
