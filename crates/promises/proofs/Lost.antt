-- Lost for good: of a list that marking accepts, what is best of all lists that begin with its first q pages never gets better as q grows,
-- from making's own to the list's own. So each page end loses what can no longer be had after it, these losses add up to what the list has
-- above making, and they are found by halves. `make_after` is proved to answer `make_after_of`, `make` to answer `make_of`, `mark` `mark_of`.
use Rattle.std.specs.Prelude.{ℕ, zero, suc, ◌+◌, ◌-◌, ◌*◌, ◌≤◌, ◌<◌, ◌≡◌, refl, ◌⊎◌, true, List, ◌++◌, length, take, drop, Ok}
use Rattle.std.proofs.Common.{zero-mul, mul-le-mul_right, arith, sym, ◌∙◌, ap, subst, inl, inr, append_assoc, take-append-drop, take-take, lt-ltb, le-ltb}
use Rattle.std.proofs.Math.Decide.{dec_lt}
use Rattle.model.specs.Gather.{sum, between}
use Rattle.model.specs.Galley as model
use Rattle.model.specs.Answers.{numbers_of, accepted, marked, Answer, refused}
use Rattle.model.proofs.laws.Gather.{between_sum}
use Rattle.galley.specs.declared.Galley.{Galley}
use Rattle.galley.specs.Whole.{galley_of}
use Rattle.galley.specs.Model.{model_of}
use Rattle.marking.specs.Mark.{mark_of}
use Rattle.needs.specs.Needs.{work_needed, list_needed}
use Rattle.making.specs.Make.{make_of}
use Rattle.making.specs.After.{make_after_of, list_made_after}
use Rattle.promises.specs.SecondDemand.{mark_is}
use Rattle.promises.specs.ThirdDemandAfter.{ThirdDemandAfter, third_demand_after}
use Rattle.promises.specs.Loosening.{after_nothing}
use Rattle.promises.specs.Lost.{first_pages, best_left, lost_by, LostForGood, page_accepted, first_pages_stand}

-- Steps that only rise add up to the whole rise.
steps_add : (f : ℕ → ℕ) → ((q r : ℕ) → q ≤ r → f q ≤ f r) → (n : ℕ) → f 0 + sum n (λ k. f k - f (k - 1)) ≡ f n
unfolding sum
steps_add f up zero = omega arith
steps_add f up (suc n) =
    let e : suc n - 1 ≡ n = omega arith in
    omega (arith, steps_add f up n, ap f e, up n (suc n) (omega arith))

module _ (bytes : List ℕ) (g : Galley) (read : galley_of bytes ≡ Ok g) (words : List ℕ) (taken : accepted (mark_of bytes words) ≡ true) where
  abbrev mark : Answer
  mark = mark_of bytes words

  abbrev pages : ℕ
  pages = (numbers_of mark).pages

  abbrev first : ℕ → List ℕ
  first q = first_pages (model_of bytes g) q words

  is : mark ≡ marked (model_of bytes g) words
  is = mark_is bytes words g read

  -- The list is its first pages and the rest.
  whole : (q : ℕ) → words ≡ first q ++ drop (q * model.streams (model_of bytes g)) words
  whole q = sym (take-append-drop (q * model.streams (model_of bytes g)) words)

  -- So are the first r pages.
  onward : (q r : ℕ) → q ≤ r → first r ≡ first q ++ drop (q * model.streams (model_of bytes g)) (first r)
  onward q r low =
      let k = model.streams (model_of bytes g) in
      let few : q * k ≤ r * k = mul-le-mul_right k low in
      sym (take-append-drop (q * k) (first r)) ∙ ap (λ l. l ++ drop (q * k) (first r)) (take-take (q * k) (r * k) words few)

  module _ (work list : List ℕ) (enough : work_needed g ≤ length work) (room : list_needed g ≤ length list) where
    abbrev after : ℕ → Answer
    after q = make_after_of bytes (first q) (length work) (length list)

    abbrev best : ℕ → Answer
    best q = best_left bytes g words (length work) (length list) q

    demand : (q : ℕ) → q < pages → ThirdDemandAfter bytes g (first q) (after q) (list_made_after bytes (first q) (length work) list)
    demand q few =
        third_demand_after {work = work} {list = list} (record { answers = refl; counts = refl; clean = refl; listed = refl }) g read enough room (first_pages_stand bytes g read words taken q few)

    after_finished : (q : ℕ) → q < pages → accepted (after q) ≡ true
    after_finished q few = go (demand q few).outcome
      where
        go : (after q ≡ refused 11 0) ⊎ (accepted (after q) ≡ true) → accepted (after q) ≡ true
        go (inr a) = a
        go (inl e) =
            let no = (demand q few).none.0 e (drop (q * model.streams (model_of bytes g)) words) in
            let yes' = subst (λ l. accepted (mark_of bytes l) ≡ true) (whole q) taken in
            absurd cc

    -- No better by turns, and of as many no better by white.
    abbrev NoBetter : Answer → Answer → Type 0
    NoBetter a b = ((numbers_of a).turns ≤ (numbers_of b).turns) × ((numbers_of b).turns ≤ (numbers_of a).turns → (numbers_of a).white ≤ (numbers_of b).white)

    -- What making answers after the first pages is no worse than any accepted list that begins with them.
    begun : (q : ℕ) → q < pages → (rest : List ℕ) → accepted (mark_of bytes (first q ++ rest)) ≡ true
        → NoBetter (after q) (mark_of bytes (first q ++ rest))
    begun q few rest a = ((demand q few).least (after_finished q few) rest a, (demand q few).whitest (after_finished q few) rest a)

    -- It is no worse than the list itself,
    by_list : (q : ℕ) → q < pages → NoBetter (after q) mark
    by_list q few =
        subst (λ l. NoBetter (after q) (mark_of bytes l)) (sym (whole q))
        (begun q few (drop (q * model.streams (model_of bytes g)) words) (subst (λ l. accepted (mark_of bytes l) ≡ true) (whole q) taken))

    -- and no worse than what making answers after more pages.
    by_more : (q r : ℕ) → q ≤ r → r < pages → NoBetter (after q) (after r)
    by_more q r low few =
        let d = demand r few in
        let a = after_finished r few in
        let (rest, begins) = d.begins a in
        let more = drop (q * model.streams (model_of bytes g)) (first r) in
        let split : first r ++ rest ≡ first q ++ (more ++ rest) = ap (λ l. l ++ rest) (onward q r low) ∙ append_assoc (first q) more rest in
        let marks : mark_of bytes (first q ++ (more ++ rest)) ≡ after r = ap (mark_of bytes) (sym split) ∙ ap (mark_of bytes) (sym begins) ∙ d.same a in
        subst (λ b. NoBetter (after q) b) marks (begun q (omega arith) (more ++ rest) (ap accepted marks ∙ a))

    early : (q : ℕ) → q < pages → best q ≡ after q
    unfolding best_left
    early q few = rw (lt-ltb q pages few)

    late : (q : ℕ) → pages ≤ q → best q ≡ mark
    unfolding best_left
    late q all = rw (le-ltb q pages all)

    no_better : (q r : ℕ) → q ≤ r → NoBetter (best q) (best r)
    no_better q r low = go (dec_lt q pages) (dec_lt r pages)
      where
        go : Dec (q < pages) → Dec (r < pages) → NoBetter (best q) (best r)
        go (yes a) (yes b) = rw (early q a, early r b) (by_more q r low b)
        go (yes a) (no b) = rw (early q a, late r (omega arith)) (by_list q a)
        go (no a) b = rw (late q (omega arith), late r (omega arith)) (omega arith, λ h. omega arith)

    some_pages : 0 < pages
    some_pages =
        subst (λ a. 0 < (numbers_of a).pages) (sym is) (page_accepted (model_of bytes g) words (sym (ap accepted is) ∙ taken))

    abbrev turns : ℕ → ℕ
    turns q = (numbers_of (best q)).turns

    up : (q r : ℕ) → q ≤ r → turns q ≤ turns r
    up q r low = (no_better q r low).0

    before : best 0 ≡ make_of bytes (length work) (length list)
    before =
        early 0 some_pages
        ∙ ap (λ n. make_after_of bytes (take n words) (length work) (length list)) (zero-mul (model.streams (model_of bytes g)))
        ∙ after_nothing bytes g read (length work) (length list)

    done : (q : ℕ) → Dec (q < pages) → accepted (best q) ≡ true
    done q (yes a) = ap accepted (early q a) ∙ after_finished q a
    done q (no a) = ap accepted (late q (omega arith)) ∙ taken

    adds : (q r : ℕ) → q ≤ r → turns q + between q r (lost_by best) ≡ turns r
    adds q r low = omega (arith, steps_add turns up q, steps_add turns up r, between_sum q r (lost_by best) low)

    -- The best that is left is promised so.
    pub lost_for_good : LostForGood (make_of bytes (length work) (length list)) mark best
    lost_for_good =
        record {
          begins = before;
          ends = late pages (omega arith);
          finished = λ q. done q (dec_lt q pages);
          grows = up;
          whiter = λ q r low. (no_better q r low).1;
          adds = adds;
          excess =
              let a = ap (λ a. (numbers_of a).turns) before in
              let b = ap (λ a. (numbers_of a).turns) (late pages (omega arith)) in
              omega (arith, a, b, steps_add turns up pages);
          halves = λ q r low level s past upto. omega (arith, level, up s r upto, up q (s - 1) (omega arith));
        }
