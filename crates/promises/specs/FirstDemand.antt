-- The first demand, from the contracts: every answer is the counts of a pagination or one numbered refusal with its place, and a
-- refusal leaves the page list untouched. `mark` is proved to answer `mark_of`, and `make` to do what `Made` says. (That every call
-- ends, with nothing undefined, is what the proofs of both say of any bytes, words and lent memory: neither has a `requires`.)
use Rattle.std.specs.Prelude.{ℕ, zero, suc, pred, ◌≡◌, refl, ◌⊎◌, Bool, true, false, List, [], ◌∷◌, ◌++◌, length, drop, ltb, Err, Ok}
use Rattle.std.proofs.Common.{arith, sym, ◌∙◌, inl, inr}
use Rattle.std.proofs.Math.Option.{Option, none, some}
use Rattle.model.specs.declared.answer.Numbers.{Numbers}
use Rattle.model.specs.Gather.{pick}
use Rattle.model.specs.Galley as model
use Rattle.model.specs.Rules.{forward, closes, fits, fills, cited, first_broken, broken}
use Rattle.model.specs.Answers as answers
use Rattle.model.specs.Answers.{numbers_of, same, ended, refuse, judge, counted, counts_of, pages_of, words_of, marked, Answer}
use Rattle.model.specs.Best.{best, made, made_words}
use Rattle.galley.specs.Whole.{galley_of, Reading}
use Rattle.galley.specs.Model.{model_of}
use Rattle.places.specs.Entry.{cleared}
use Rattle.marking.specs.Mark.{mark_of}
use Rattle.needs.specs.Needs.{work_needed, list_needed}
use Rattle.making.specs.Make.{make_read, make_of, work_read, work_after, list_read, list_after, Made}
use Rattle.promises.specs.Answers.{ByMarking, ByMaking, picked, past_memory, of_marking}

-- The numbers of an answer are those of a finished call, with number and place 0, or of a refusal with one of the numbers that may be,
-- its place, and no counts (document 01, "Numbers that turn work away"; document 02, S-10).
pub data Answered (May : ℕ → Type 0) : Numbers → Type 0 where
  finished : {p x y t w : ℕ} → Answered May (record { number = 0; place = 0; pages = p; x = x; y = y; turns = t; white = w })
  refused : {n at : ℕ} → May n → Answered May (record { number = n; place = at; pages = 0; x = 0; y = 0; turns = 0; white = 0 })

-- The same of an answer.
abbrev pub Ends : (ℕ → Type 0) → Answer → Type 0
Ends May a = Answered May (numbers_of a)

-- The number of the first broken rule is one of a list's, or there is none.
broken_number : (a b c d e : Bool) → (first_broken a b c d e ≡ 0) ⊎ ByMarking (first_broken a b c d e)
unfolding first_broken
broken_number false b c d e = inr (inr (omega arith, omega arith))
broken_number true false c d e = inr (inr (omega arith, omega arith))
broken_number true true false d e = inr (inr (omega arith, omega arith))
broken_number true true true false e = inr (inr (omega arith, omega arith))
broken_number true true true true false = inr (inr (omega arith, omega arith))
broken_number true true true true true = inl refl

refuse_ends : (n q : ℕ) (after : Answer) → (n ≡ 0) ⊎ ByMarking n → Ends ByMarking after → Ends ByMarking (refuse n q after)
unfolding refuse
refuse_ends zero q after h e = e
refuse_ends (suc n) q after (inl z) e = absurd (omega arith)
refuse_ends (suc n) q after (inr h) e = refused h

judge_ends : (g : model.Galley) (good : Answer) (q : ℕ) (u : model.Place) (ps : List model.Place) → Ends ByMarking good
    → Ends ByMarking (judge g good q u ps)
unfolding judge broken
judge_ends g good q u [] h =
    picked (Ends ByMarking) (same u (model.sizes g)) good (answers.refused 18 (pred q)) h (refused (inr (omega arith, omega arith)))
judge_ends g good q u (v ∷ vs) h =
    refuse_ends (broken g q (ended vs) u v) q (judge g good (suc q) v vs)
    (broken_number (forward g u v) (closes g v) (fits g u v) (fills g (ended vs) u v) (cited g q (ended vs) v))
    (judge_ends g good (suc q) v vs h)

counts_end : (May : ℕ → Type 0) (g : model.Galley) (ps : List model.Place) → Ends May (counts_of g ps)
unfolding counts_of
counts_end May g ps = finished

marked_ends : (g : model.Galley) (words : List ℕ) → Ends ByMarking (marked g words)
unfolding marked
marked_ends g words =
    picked (Ends ByMarking) (counted g words) (judge g (counts_of g (pages_of g words)) 1 (model.zeros g) (pages_of g words)) (answers.refused 12 0)
    (judge_ends g (counts_of g (pages_of g words)) 1 (model.zeros g) (pages_of g words) (counts_end ByMarking g (pages_of g words)))
    (refused (inr (omega arith, omega arith)))

pub made_ends : (g : model.Galley) → Ends ByMaking (made g)
unfolding made
made_ends g = go (best g)
  where
    go : (b : Option (List model.Place)) → Ends ByMaking (elim b [ none ↦ answers.refused 11 0 | some ps ↦ counts_of g ps ])
    go none = refused {n = 11} (omega arith, omega arith)
    go (some ps) = counts_end ByMaking g ps

-- Any galley and any list of words gets an accepted mark or one numbered refusal.
pub marking_answers : (bytes words : List ℕ) → Answered ByMarking (numbers_of (mark_of bytes words))
marking_answers bytes words =
    of_marking (Ends ByMarking) bytes words (λ n at l h. refused (inl (l, h))) (λ g e. marked_ends (model_of bytes g) words)

-- Where making answers 11, or anything but counts, it writes no word.
pub made_refused : (g : model.Galley) (n at : ℕ) → made g ≡ answers.refused n at → (n ≡ 11) × (made_words g ≡ [])
unfolding made made_words counts_of
made_refused g n at e = go (best g) e
  where
    answer : Option (List model.Place) → Answer
    answer b = elim b [ none ↦ answers.refused 11 0 | some ps ↦ counts_of g ps ]

    words : Option (List model.Place) → List ℕ
    words b = elim b [ none ↦ [] | some ps ↦ words_of ps ]

    go : (b : Option (List model.Place)) → answer b ≡ answers.refused n at → (n ≡ 11) × (words b ≡ [])
    go b e = grind arith

refused_list : (bytes : List ℕ) (work : ℕ) (list : List ℕ) (n at : ℕ) → make_of bytes work (length list) ≡ answers.refused n at
    → list_after bytes work list ≡ list
unfolding make_of make_read list_after list_read
refused_list bytes work list n at e = go (galley_of bytes) e
  where
    go : (r : Reading) → make_read bytes work (length list) r ≡ answers.refused n at → list_read bytes work list r ≡ list
    go (Ok g) e =
        let words = made_words (model_of bytes g) in
        past_memory (λ short. pick short list (words ++ drop (length words) list) ≡ list) _ _ (made (model_of bytes g)) refl
        (λ e. let m = (made_refused (model_of bytes g) n at e).1 in rw m)
        (ltb work (work_needed g)) (ltb (length list) (list_needed g)) e
    go (Err r) e = refl

refused_work : (bytes work : List ℕ) (list n at : ℕ) → make_of bytes (length work) list ≡ answers.refused n at → ¬ (n ≡ 11)
    → work_after bytes work list ≡ work
unfolding make_of make_read work_after work_read
refused_work bytes work list n at e other = go (galley_of bytes) e
  where
    go : (r : Reading) → make_read bytes (length work) list r ≡ answers.refused n at → work_read work list r ≡ work
    go (Ok g) e =
        past_memory (λ short. pick short work (cleared (work_needed g) work) ≡ work) _ _ (made (model_of bytes g)) refl
        (λ e. absurd (other (made_refused (model_of bytes g) n at e).0))
        (ltb (length work) (work_needed g)) (ltb list (list_needed g)) e
    go (Err r) e = refl

-- What the contract of `make` promises of its answer and of the lent memory, whatever that held.
module _ {bytes work list : List ℕ} {answer : Answer} {count : ℕ} {work' list' : List ℕ} (m : Made bytes work list answer count work' list') where
  -- A refusal leaves the page list untouched.
  pub refusal_keeps_list : (n at : ℕ) → answer ≡ answers.refused n at → list' ≡ list
  refusal_keeps_list n at e = m.listed ∙ refused_list bytes (length work) list n at (sym m.answers ∙ e)

  -- A refusal other than 11 leaves the work area untouched too.
  pub refusal_keeps_work : (n at : ℕ) → answer ≡ answers.refused n at → ¬ (n ≡ 11) → work' ≡ work
  refusal_keeps_work n at e other = m.clean ∙ refused_work bytes work (length list) n at (sym m.answers ∙ e) other
