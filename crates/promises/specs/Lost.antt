-- Lost for good: of a list that marking accepts, what is best of all lists that begin with its first q pages never gets better as q grows,
-- from making's own to the list's own. So each page end loses what can no longer be had after it, these losses add up to what the list has
-- above making, and they are found by halves. `make_after` is proved to answer `make_after_of`, `make` to answer `make_of`, `mark` `mark_of`.
use Rattle.std.specs.Prelude.{ℕ, zero, suc, pred, ◌+◌, ◌-◌, ◌*◌, ◌/◌, ◌%◌, ◌≤◌, ◌<◌, ◌≡◌, refl, Bool, true, false, List, [], ◌∷◌, ◌++◌, length, take, drop, ltb, eqb, Ok}
use Rattle.std.proofs.Common.{suc-mul, mul-div_cancel, mul-le-mul_right, arith, sym, ◌∙◌, ap, subst, length-drop, length-take-le, take_at, drop_at, take-add, eq-eqb}
use Rattle.std.proofs.Math.Nat.{mul-mod_left}
use Rattle.std.proofs.Math.Option.{Option, none, some}
use Rattle.model.specs.Gather.{pick, sum, between}
use Rattle.model.specs.Galley as model
use Rattle.model.specs.Answers.{numbers_of, accepted, same, ended, chunks, pages_of, counts_of, marked, Answer, refused}
use Rattle.model.specs.Best.{allowed}
use Rattle.model.specs.Opening.{pages_turned, opening_turned}
use Rattle.model.proofs.laws.Gather.{and_left, and_right}
use Rattle.model.proofs.laws.Rules.{kept, forward_at}
use Rattle.model.specs.laws.Judge.{accepts}
use Rattle.model.proofs.laws.Words.{length_chunks, length_pages, counted_at}
use Rattle.model.proofs.laws.Valid.{same_true, count_sizes, marked_accepted, marked_counts}
use Rattle.galley.specs.declared.Galley.{Galley}
use Rattle.galley.specs.Whole.{galley_of}
use Rattle.galley.specs.Model.{model_of}
use Rattle.marking.specs.Mark.{mark_of}
use Rattle.making.specs.After.{make_after_of}
use Rattle.promises.specs.SecondDemand.{mark_is}

-- The words of the first q pages of a list.
abbrev pub first_pages : model.Galley → ℕ → List ℕ → List ℕ
first_pages g q words = take (q * model.streams g) words

-- The best that is left when the first q pages of a list are given: what making answers after them, and with all of its pages the list
-- itself, as it is marked.
unfoldable pub best_left : List ℕ → Galley → List ℕ → ℕ → ℕ → ℕ → Answer
best_left bytes g words work list q =
    pick (ltb q (numbers_of (mark_of bytes words)).pages) (make_after_of bytes (first_pages (model_of bytes g) q words) work list) (mark_of bytes words)

-- The turns that page end q loses for good: with it given the best has so many more.
abbrev pub lost_by : (ℕ → Answer) → ℕ → ℕ
lost_by best q = (numbers_of (best q)).turns - (numbers_of (best (q - 1))).turns

-- What is promised of the best that is left of an accepted list after q of its pages, given what making and marking answer.
pub record LostForGood (made mark : Answer) (best : ℕ → Answer) : Type 0 where
  -- it is making's own before any page, and the list's own after all,
  pub begins : best 0 ≡ made
  pub ends : best (numbers_of mark).pages ≡ mark
  -- and always a finished pagination
  pub finished : (q : ℕ) → accepted (best q) ≡ true
  -- the turns never fall as pages are given,
  pub grows : (q r : ℕ) → q ≤ r → (numbers_of (best q)).turns ≤ (numbers_of (best r)).turns
  -- nor, where they stay the same, does the white
  pub whiter : (q r : ℕ) → q ≤ r → (numbers_of (best r)).turns ≤ (numbers_of (best q)).turns → (numbers_of (best q)).white ≤ (numbers_of (best r)).white
  -- the losses of the page ends past q up to r are what the turns rise by from q to r,
  pub adds : (q r : ℕ) → q ≤ r → (numbers_of (best q)).turns + between q r (lost_by best) ≡ (numbers_of (best r)).turns
  -- those of all its page ends are what the list has above making,
  pub excess : (numbers_of made).turns + sum (numbers_of mark).pages (lost_by best) ≡ (numbers_of mark).turns
  -- and where the turns are the same at q and at r no page end between them loses any: so losses are found by halves
  pub halves : (q r : ℕ) → q ≤ r → (numbers_of (best r)).turns ≤ (numbers_of (best q)).turns → (s : ℕ) → q < s → s ≤ r → lost_by best s ≡ 0

-- The first q pages of the words, as places, are the first q of their places.
chunks_first : (q p k : ℕ) (ws : List ℕ) → q ≤ p → length ws ≡ p * k → chunks q k (take (q * k) ws) ≡ take q (chunks p k ws)
unfolding chunks
chunks_first zero p k ws few long = refl
chunks_first (suc q) zero k ws few long = absurd (omega arith)
chunks_first (suc q) (suc p) k ws few long =
    let one = suc-mul q k in
    let all = suc-mul p k in
    let split : take (suc q * k) ws ≡ take k ws ++ take (q * k) (drop k ws) =
    let e : suc q * k ≡ k + q * k = omega arith in
    ap (λ n. take n ws) e ∙ take-add k (q * k) ws in
    let here = length-take-le k ws (omega arith) in
    let left = length-drop k ws in
    rw (split, take_at (take k ws) (take (q * k) (drop k ws)) k here, drop_at (take k ws) (take (q * k) (drop k ws)) k here)
    (ap (λ vs. take k ws ∷ vs) (chunks_first q p k (drop k ws) (omega arith) (omega arith)))

not_ended : (n : ℕ) (vs : List model.Place) → n < length vs → ended vs ≡ false
not_ended n [] h = absurd (omega arith)
not_ended n (v ∷ vs) h = refl

-- Pages that are allowed and more of which follow are not turned away: none of them is the last, and the next has something to place.
pages_stand : (g : model.Galley) (n q : ℕ) (u : model.Place) (ps : List model.Place) → n < length ps
    → accepts (allowed g) (model.sizes g) q u ps ≡ true → pages_turned g q u (take n ps) ≡ none
unfolding accepts pages_turned
pages_stand g n q u [] few h = absurd (omega arith)
pages_stand g zero q u (v ∷ vs) few h = go (same u (model.sizes g)) refl
  where
    go : (b : Bool) → same u (model.sizes g) ≡ b → ◌≡◌ {A = Option Answer} (pick b (some (refused 21 (pred q))) none) none
    go false e = refl
    go true e =
        let full = same_true u (model.sizes g) e in
        let onward = forward_at g u v
        (kept (and_left (allowed g q (ended vs) u v) (accepts (allowed g) (model.sizes g) (suc q) v vs) h)).rule13 in
        let (s, low, more) = onward.more in
        let top = onward.top s low in
        let size = count_sizes g s low in
        let there = ap (λ w. model.count w s) full in
        absurd (omega arith)
pages_stand g (suc n) q u (v ∷ vs) few h =
    let here = and_left (allowed g q (ended vs) u v) (accepts (allowed g) (model.sizes g) (suc q) v vs) h in
    let later = and_right (allowed g q (ended vs) u v) (accepts (allowed g) (model.sizes g) (suc q) v vs) h in
    let ok : allowed g q false u v ≡ true = subst (λ b. allowed g q b u v ≡ true) (not_ended n vs (omega arith)) here in
    rw ok (pages_stand g n (suc q) v vs (omega arith) later)

-- In the page model: the first pages of an accepted list, but not all of them, are an opening that neither 20 nor 21 turns away.
first_stand : (g : model.Galley) (words : List ℕ) → accepted (marked g words) ≡ true → (q : ℕ) → q < (numbers_of (marked g words)).pages
    → opening_turned g (first_pages g q words) ≡ none
unfolding opening_turned pages_of model.streams counts_of
first_stand g words a q few =
    let k = suc g.floats in
    let m = (marked_accepted g words).0 a in
    let whole = (counted_at g words m.whole).whole in
    let count : (numbers_of (marked g words)).pages ≡ length words / k = ap (λ r. (numbers_of r).pages) (marked_counts g words a) ∙ length_pages g words in
    let p = length words / k in
    let scaled : q * k ≤ p * k = mul-le-mul_right k (omega arith) in
    let long : length (take (q * k) words) ≡ q * k = length-take-le (q * k) words (omega arith) in
    let places : chunks (length (take (q * k) words) / k) k (take (q * k) words) ≡ take q (chunks p k words) =
    ap (λ n. chunks (n / k) k (take (q * k) words)) long ∙ ap (λ n. chunks n k (take (q * k) words)) (mul-div_cancel q {n = k} (omega arith))
    ∙ chunks_first q p k words (omega arith) whole in
    let rest : eqb (length (take (q * k) words) % k) 0 ≡ true = eq-eqb _ _ (ap (λ n. n % k) long ∙ mul-mod_left q k) in
    rw (rest, places) (pages_stand g q 1 (model.zeros g) (chunks p k words) (let n = length_chunks p k words in omega arith) m.pages.taken)

-- An accepted list has a page.
pub page_accepted : (g : model.Galley) (words : List ℕ) → accepted (marked g words) ≡ true → 0 < (numbers_of (marked g words)).pages
unfolding counts_of
page_accepted g words a =
    let count = ap (λ r. (numbers_of r).pages) (marked_counts g words a) in
    omega (arith, count, ((marked_accepted g words).0 a).pages.some)

-- In the engine's words: the first pages of an accepted list, but not all of them, are an opening that neither 20 nor 21 turns away.
pub first_pages_stand : (bytes : List ℕ) (g : Galley) → galley_of bytes ≡ Ok g → (words : List ℕ) → accepted (mark_of bytes words) ≡ true
    → (q : ℕ) → q < (numbers_of (mark_of bytes words)).pages → opening_turned (model_of bytes g) (first_pages (model_of bytes g) q words) ≡ none
first_pages_stand bytes g read words taken q few =
    let is = mark_is bytes words g read in
    first_stand (model_of bytes g) words (sym (ap accepted is) ∙ taken) q (subst (λ a. q < (numbers_of a).pages) is few)
