-- The third demand after an opening: of the lists that begin with it none can beat the engine (document 02, S-6). For every galley that
-- reads without refusal, every opening that neither 20 nor 21 turns away, and a work area and page list of at least the lengths laid
-- down, whatever they hold. `MadeAfter` is the contract of `make_after`, and `mark` is proved to answer `mark_of`.
use Rattle.std.specs.Prelude.{ℕ, ◌*◌, ◌≤◌, ◌≡◌, ◌⊎◌, ◌↔◌, true, false, List, ◌++◌, length, take, drop, Ok}
use Rattle.std.proofs.Common.{arith, sym, ◌∙◌, ap, inl, inr, take_at, le-ltb}
use Rattle.std.proofs.Math.Path.{refl}
use Rattle.std.proofs.Math.Option.{none}
use Rattle.model.specs.Galley.{streams}
use Rattle.model.specs.Answers.{numbers_of, accepted, marked, Answer, refused}
use Rattle.model.specs.Opening.{opening_turned, made_after, made_words_after}
use Rattle.theorems.specs.pages.LeastAfter.{MakingAfter, turned_away, no_list, best_list, making_after}
use Rattle.galley.specs.declared.Galley.{Galley}
use Rattle.galley.specs.Whole.{galley_of}
use Rattle.galley.specs.Model.{model_of}
use Rattle.marking.specs.Mark.{mark_read, mark_of}
use Rattle.needs.specs.Needs.{work_needed, list_needed}
use Rattle.making.specs.After.{make_after_read, make_after_of, list_made_read, list_made_after, MadeAfter}

-- What is promised of the answer of making the bytes of the galley g after an opening, and of the page list afterwards.
pub record ThirdDemandAfter (bytes : List ℕ) (g : Galley) (opening : List ℕ) (answer : Answer) (list' : List ℕ) : Type 0 where
  -- making returns a list, or 11
  pub outcome : (answer ≡ refused 11 0) ⊎ (accepted answer ≡ true)
  -- the list that it returns, the first p pages of the page list, begins with the opening,
  pub begins : accepted answer ≡ true
      → (rest : List ℕ) × (take (streams (model_of bytes g) * (numbers_of answer).pages) list' ≡ opening ++ rest)
  -- and is accepted by marking the same bytes with the same p, X, Y, T, W
  pub same : accepted answer ≡ true → mark_of bytes (take (streams (model_of bytes g) * (numbers_of answer).pages) list') ≡ answer
  -- every list that begins with the opening and that marking accepts has at least as many turns
  pub least : accepted answer ≡ true → (words : List ℕ) → accepted (mark_of bytes (opening ++ words)) ≡ true
      → (numbers_of answer).turns ≤ (numbers_of (mark_of bytes (opening ++ words))).turns
  -- and of those that have no more turns at least as much white (document 02, S-10)
  pub whitest : accepted answer ≡ true → (words : List ℕ) → accepted (mark_of bytes (opening ++ words)) ≡ true
      → (numbers_of (mark_of bytes (opening ++ words))).turns ≤ (numbers_of answer).turns
      → (numbers_of answer).white ≤ (numbers_of (mark_of bytes (opening ++ words))).white
  -- 11 comes back exactly where marking accepts no list that begins so
  pub none : (answer ≡ refused 11 0) ↔ ((words : List ℕ) → accepted (mark_of bytes (opening ++ words)) ≡ false)

-- What making means for the galley that was read gives the demand.
module _ (bytes : List ℕ) (g : Galley) (read : galley_of bytes ≡ Ok g) (opening list : List ℕ)
    (stands : opening_turned (model_of bytes g) opening ≡ none) (answer : Answer) (list' : List ℕ) (makes : answer ≡ made_after (model_of bytes g) opening)
    (lists : list'
    ≡ made_words_after (model_of bytes g) opening ++ drop (length (made_words_after (model_of bytes g) opening)) list) where
  marks : (words : List ℕ) → mark_of bytes words ≡ marked (model_of bytes g) words
  unfolding mark_of mark_read
  marks words = rw read refl

  impossible : {A : Type 0} → true ≡ false → A
  impossible z = let q : ◌≡◌ {A = ℕ} 0 1 = cc in absurd (omega arith)

  from_making : {a : Answer} {ws : List ℕ} → MakingAfter (model_of bytes g) opening a ws → made_after (model_of bytes g) opening ≡ a
      → made_words_after (model_of bytes g) opening ≡ ws → ThirdDemandAfter bytes g opening answer list'
  from_making (turned_away t h) e f =
      let s = stands in
      absurd cc
  from_making (no_list s empty) e f =
      record {
        outcome = inl (makes ∙ e);
        begins = λ a. impossible (sym a ∙ ap accepted (makes ∙ e));
        same = λ a. impossible (sym a ∙ ap accepted (makes ∙ e));
        least = λ a. impossible (sym a ∙ ap accepted (makes ∙ e));
        whitest = λ a. impossible (sym a ∙ ap accepted (makes ∙ e));
        none = (λ _ words. ap accepted (marks (opening ++ words)) ∙ empty words, λ _. makes ∙ e);
      }
  from_making (best_list {p} rest s m long best whiter) e f =
      record {
        outcome = inr (ap accepted (makes ∙ e));
        begins = λ a. (rest, rw (makes ∙ e) first);
        same = λ a. rw (makes ∙ e) (marks _ ∙ ap (marked (model_of bytes g)) first ∙ m);
        least = λ a words b.
            rw (makes ∙ e) (rw (marks (opening ++ words)) (best words (sym (ap accepted (marks (opening ++ words))) ∙ b)));
        whitest = λ a words b k.
            rw (makes ∙ e) (rw (marks (opening ++ words))
            (whiter words (sym (ap accepted (marks (opening ++ words))) ∙ b) (rw (makes ∙ e, marks (opening ++ words)) at k)));
        none = (
          λ r. impossible (sym (ap accepted (makes ∙ e)) ∙ ap accepted r),
          λ h. impossible (sym (ap accepted m) ∙ sym (ap accepted (marks (opening ++ rest))) ∙ h rest),
        );
      }
    where
      first : take (streams (model_of bytes g) * p) list' ≡ opening ++ rest
      first =
          ap (take (streams (model_of bytes g) * p)) (lists ∙ ap (λ l. l ++ drop (length l) list) f)
          ∙ take_at (opening ++ rest) (drop (length (opening ++ rest)) list) (streams (model_of bytes g) * p) (omega arith)

  pub made_demand : ThirdDemandAfter bytes g opening answer list'
  made_demand =
      from_making (making_after (model_of bytes g) opening) refl refl

-- The demand holds of whatever the contract of `make_after` allows.
pub third_demand_after : {bytes opening work list : List ℕ} {answer : Answer} {count : ℕ} {work' list' : List ℕ}
    → MadeAfter bytes opening work list answer count work' list' → (g : Galley) → galley_of bytes ≡ Ok g
    → work_needed g ≤ length work → list_needed g ≤ length list → opening_turned (model_of bytes g) opening ≡ none
    → ThirdDemandAfter bytes g opening answer list'
unfolding make_after_of make_after_read list_made_after list_made_read
third_demand_after {bytes} {opening} {work} {list} {answer} {count} {work'} {list'} m g read enough room stands =
    let short = le-ltb (length work) (work_needed g) enough in
    let thin = le-ltb (length list) (list_needed g) room in
    made_demand bytes g read opening list stands answer list' (m.answers ∙ rw read (simp (short, thin))) (m.listed ∙ rw read (simp (short, thin)))
