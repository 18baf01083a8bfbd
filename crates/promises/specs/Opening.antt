-- The first demand, the count and the limits of turns and white for making after an opening (document 02, S-6). `make_after` is proved to do what
-- `MadeAfter` says, of any bytes, any words of an opening and any lent memory: it has no `requires`.
use Rattle.std.specs.Prelude.{ℕ, ◌≤◌, ◌≡◌, ◌⊎◌, Bool, not, ◌&&◌, ◌||◌, List, [], ◌++◌, length, ltb, Err, Ok}
use Rattle.std.proofs.Common.{le_trans, sym, ◌∙◌, inl, inr}
use native.Mathlib.Omega.{arith}
use Rattle.std.proofs.Math.Path.{refl, ap, subst}
use Rattle.std.proofs.Math.Bool.{true, false}
use Rattle.std.proofs.Math.Option.{Option, none, some}
use Rattle.std.proofs.Math.ListN.{drop}
use Rattle.model.specs.Gather.{pick}
use Rattle.model.specs.Galley as model
use Rattle.model.specs.Answers as answers
use Rattle.model.specs.Answers.{numbers_of, pages_of, Answer}
use Rattle.model.specs.Weighed.{weighed_from, ceiling}
use Rattle.model.specs.Opening.{end_of, opening_turned, made_after, made_words_after}
use Rattle.model.proofs.laws.Weighed.{weighed_ceiling, weighed_from_le}
use Rattle.theorems.specs.pages.LeastAfter.{ByOpening, MakingAfter, turned_away, no_list, best_list, making_after}
use Rattle.galley.specs.declared.Galley.{Galley}
use Rattle.galley.specs.Whole.{galley_of, Reading}
use Rattle.galley.specs.Model.{model_of}
use Rattle.galley.proofs.laws.Sound.{refusal_number}
use Rattle.places.specs.Entry.{cleared}
use Rattle.needs.specs.Needs.{work_needed, list_needed}
use Rattle.making.specs.After.{stands, sought, make_after_read, make_after_of, work_made_read, work_made_after, list_made_read, list_made_after, weighed_after_read, weighed_after_of, MadeAfter}
use Rattle.solving.specs.laws.Solved.{reads_limits}
use Rattle.forecast.specs.Forecast.{forecast_read, forecast_of}
use Rattle.promises.specs.Answers.{ByMaking, with_memory, past_memory}
use Rattle.promises.specs.FirstDemand.{Answered, finished, refused}
use Rattle.promises.specs.Forecast.{ceiling_told}
use Rattle.promises.specs.Limit.{Within, Costs, marked_within}

-- The numbers with which making after an opening may refuse: those of making, and 20 and 21.
abbrev pub ByMakingAfter : ℕ → Type 0
ByMakingAfter n = ByMaking n ⊎ ((n ≡ 20) ⊎ (n ≡ 21))

-- What has to be shown of an answer: of each refusal before the opening is looked at, and of what the page model answers.
pub of_making_after : (P : Answer → Type 0) (bytes opening : List ℕ) (work list : ℕ)
    → ((n at : ℕ) → (1 ≤ n) × (n ≤ 10) → P (answers.refused n at))
    → ((g : Galley) → galley_of bytes ≡ Ok g → P (made_after (model_of bytes g) opening)) → P (make_after_of bytes opening work list)
unfolding make_after_of make_after_read
of_making_after P bytes opening work list away read = go (galley_of bytes) refl
  where
    go : (r : Reading) → galley_of bytes ≡ r → P (make_after_read bytes opening work list r)
    go (Ok g) e =
        with_memory P (ltb work (work_needed g)) (ltb list (list_needed g)) (away 9 (work_needed g) (omega arith, omega arith))
        (away 10 (list_needed g) (omega arith, omega arith)) (read g e)
    go (Err r) e = let h = refusal_number bytes r.number r.place e in away r.number r.place (h.0, omega (arith, h.1))

-- One of the opening's refusals has its number.
turned_number : (a : Answer) → ByOpening a → Answered ByMakingAfter (numbers_of a)
turned_number a (at, inl e) = subst (λ a. Answered ByMakingAfter (numbers_of a)) (sym e) (refused (inr (inl refl)))
turned_number a (at, inr e) = subst (λ a. Answered ByMakingAfter (numbers_of a)) (sym e) (refused (inr (inr refl)))

-- What the page model answers is told by the meaning of making.
module _ (g : model.Galley) (ows : List ℕ) where
  pub after_ends : {a : Answer} {ws : List ℕ} → MakingAfter g ows a ws → Answered ByMakingAfter (numbers_of a)
  after_ends (turned_away {a} t h) = turned_number a h
  after_ends (no_list s empty) = refused {n = 11} (inl (omega arith, omega arith))
  after_ends (best_list rest s m long best whiter) = finished

  -- A refusal writes nothing, and where it is not 11 the opening does not stand.
  after_refused : {a : Answer} {ws : List ℕ} → MakingAfter g ows a ws → (n at : ℕ) → a ≡ answers.refused n at
      → (ws ≡ []) × (¬ (n ≡ 11) → (r : Answer) × (opening_turned g ows ≡ some r))
  after_refused (turned_away {a} t h) n at e = (refl, λ o. (a, t))
  after_refused (no_list s empty) n at e = (refl, λ o. absurd (o (grind arith)))
  after_refused (best_list rest s m long best whiter) n at e = absurd cc

-- What is promised of making after an opening.
module _ {bytes opening work list : List ℕ} {answer : Answer} {count : ℕ} {work' list' : List ℕ}
    (m : MadeAfter bytes opening work list answer count work' list') where
  -- A refusal leaves the page list untouched.
  pub after_keeps_list : (n at : ℕ) → answer ≡ answers.refused n at → list' ≡ list
  unfolding make_after_of make_after_read list_made_after list_made_read
  after_keeps_list n at e = m.listed ∙ go (galley_of bytes) (sym m.answers ∙ e)
    where
      go : (r : Reading) → make_after_read bytes opening (length work) (length list) r ≡ answers.refused n at
          → list_made_read bytes opening (length work) list r ≡ list
      go (Ok g) e =
          let words = made_words_after (model_of bytes g) opening in
          past_memory (λ short. pick short list (words ++ drop (length words) list) ≡ list) _ _ (made_after (model_of bytes g) opening) refl
          (λ e. let w = (after_refused (model_of bytes g) opening (making_after (model_of bytes g) opening) n at e).0 in rw w)
          (ltb (length work) (work_needed g)) (ltb (length list) (list_needed g)) e
      go (Err r) e = refl

  -- Nothing is sought with a refusal other than 11: nothing turned the lent memory, or something the opening, away.
  unsought : (g : Galley) (n at : ℕ) → ¬ (n ≡ 11) → (a b : Bool)
      → pick a (answers.refused 9 (work_needed g)) (pick b (answers.refused 10 (list_needed g)) (made_after (model_of bytes g) opening)) ≡ answers.refused n at
      → (not (a || b) && stands bytes g opening) ≡ false
  unfolding stands
  unsought g n at other =
      past_memory (λ short. (not short && stands bytes g opening) ≡ false) _ _ (made_after (model_of bytes g) opening) refl (λ e.
      let (r, t) = (after_refused (model_of bytes g) opening (making_after (model_of bytes g) opening) n at e).1 other in
      ap (λ (o : Option Answer). elim o [ none ↦ true | some refusal ↦ false ]) t)

  -- A refusal other than 11 leaves the work area untouched too.
  pub after_keeps_work : (n at : ℕ) → answer ≡ answers.refused n at → ¬ (n ≡ 11) → work' ≡ work
  unfolding make_after_of make_after_read work_made_after work_made_read
  after_keeps_work n at e other = m.clean ∙ go (galley_of bytes) (sym m.answers ∙ e)
    where
      go : (r : Reading) → make_after_read bytes opening (length work) (length list) r ≡ answers.refused n at
          → work_made_read bytes opening work (length list) r ≡ work
      go (Ok g) e =
          ap (λ b. pick b (cleared (work_needed g) work) work)
          (unsought g n at other (ltb (length work) (work_needed g)) (ltb (length list) (list_needed g)) e)
      go (Err r) e = refl

  -- The count is 0 with every refusal other than 11,
  pub after_counts_none : (n at : ℕ) → answer ≡ answers.refused n at → ¬ (n ≡ 11) → count ≡ 0
  unfolding make_after_of make_after_read weighed_after_of weighed_after_read
  after_counts_none n at e other = m.counts ∙ go (galley_of bytes) (sym m.answers ∙ e)
    where
      go : (r : Reading) → make_after_read bytes opening (length work) (length list) r ≡ answers.refused n at
          → weighed_after_read bytes opening (length work) (length list) r ≡ 0
      go (Ok g) e =
          ap (λ b. pick b (weighed_from (model_of bytes g) (end_of (model.zeros (model_of bytes g)) (pages_of (model_of bytes g) opening))) 0)
          (unsought g n at other (ltb (length work) (work_needed g)) (ltb (length list) (list_needed g)) e)
      go (Err r) e = refl

  -- and never passes the ceiling that is told beforehand.
  pub after_counts_low : count ≤ ceiling_told (forecast_of bytes)
  unfolding weighed_after_of weighed_after_read forecast_of forecast_read
  after_counts_low = subst (λ k. k ≤ ceiling_told (forecast_of bytes)) (sym m.counts) (go (galley_of bytes))
    where
      less : (b : Bool) (n top : ℕ) → n ≤ top → pick b n 0 ≤ top
      less true n top h = h
      less false n top h = omega arith

      go : (r : Reading) → weighed_after_read bytes opening (length work) (length list) r ≤ ceiling_told (forecast_read bytes r)
      go (Ok g) =
          less (sought bytes g opening (length work) (length list))
          (weighed_from (model_of bytes g) (end_of (model.zeros (model_of bytes g)) (pages_of (model_of bytes g) opening))) (ceiling (model_of bytes g))
          (le_trans (weighed_from_le (model_of bytes g) (end_of (model.zeros (model_of bytes g)) (pages_of (model_of bytes g) opening))) (weighed_ceiling (model_of bytes g)))
      go (Err r) = omega arith

  pub after_within : {most : ℕ} → Costs most bytes → Within most answer
  after_within {most} costs =
      subst (λ a. Within most a) (sym m.answers)
      (of_making_after (λ a. Within most a) bytes opening (length work) (length list) (λ n at h. (omega arith, omega arith))
      (λ g e. limited g e (making_after (model_of bytes g) opening)))
    where
      turned : {a : Answer} → ByOpening a → Within most a
      turned (at, inl h) = subst (λ a. Within most a) (sym h) (omega arith, omega arith)
      turned (at, inr h) = subst (λ a. Within most a) (sym h) (omega arith, omega arith)

      limited : (g : Galley) → galley_of bytes ≡ Ok g → {a : Answer} {ws : List ℕ} → MakingAfter (model_of bytes g) opening a ws
          → Within most a
      limited g e (turned_away t h) = turned h
      limited g e (no_list s empty) = (omega arith, omega arith)
      limited g e (best_list rest s m long best whiter) =
          subst (λ a. Within most a) m
          (marked_within most (model_of bytes g) (reads_limits bytes g e) (costs g e) (opening ++ rest))
