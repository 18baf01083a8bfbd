-- The first demand for books: any bytes, lengths and lent memory get a finished book or one numbered refusal with its place, and a refusal
-- leaves the page list untouched (document 02, S-9). `Bound` is the contract of `make_book`, which has no `requires`.
use Rattle.std.specs.Prelude.{ℕ, ◌+◌, ◌≤◌, ◌≡◌, ◌⊎◌, Bool, length, ltb, Err, Ok}
use native.Mathlib.Omega.{arith}
use Rattle.std.proofs.Math.Path.{refl, subst}
use Rattle.std.proofs.Common.{sym, ◌∙◌, ap, inl, inr}
use Rattle.std.proofs.Math.Bool.{true, false}
use mathlib.Core.List.{List, [], ◌∷◌, ◌++◌}
use Rattle.std.proofs.Math.ListN.{drop}
use Rattle.std.proofs.Math.Seq.{slice}
use Rattle.model.specs.declared.answer.Numbers.{Numbers}
use Rattle.model.specs.Gather.{pick}
use Rattle.model.specs.Galley as model
use Rattle.model.specs.Answers as answers
use Rattle.model.specs.Answers.{numbers_of, Answer, counted_as}
use Rattle.model.specs.Book.{book_counts, book_made, book_words}
use Rattle.theorems.specs.books.Binding.{Binding, no_choice, best_choice, binding}
use Rattle.galley.specs.declared.Spec.{Spec}
use Rattle.galley.specs.Whole.{galley_of, Reading}
use Rattle.galley.proofs.laws.Sound.{refusal_number}
use Rattle.places.specs.Entry.{cleared}
use Rattle.chapters.specs.Book.{Chapter, Outcome, read, refused, adds_up, alike, has_folio, before, later, later_from, first_of, chapters_of, book_of, models_of, book_work, book_list}
use Rattle.course.specs.Weighed.{all_weighed}
use Rattle.book.specs.declared.BookMade.{BookMade}
use Rattle.promises.specs.Answers.{past_memory}
use Rattle.book.specs.Make.{BookAnswer, told_of, book_read, work_read, list_read, Bound}
use Rattle.promises.specs.FirstDemand.{Answered, finished, refused as turned}

-- The numbers with which reading a book may refuse: those of a galley and those of a book,
abbrev pub ByReading : ℕ → Type 0
ByReading n = ((1 ≤ n) × (n ≤ 8)) ⊎ ((28 ≤ n) × (n ≤ 30))

-- and those with which making one may: 9, 10 and 11 besides.
abbrev pub ByBook : ℕ → Type 0
ByBook n = ((1 ≤ n) × (n ≤ 11)) ⊎ ((28 ≤ n) × (n ≤ 30))

-- A book that was read, or a refusal with one of these numbers.
abbrev pub Fine : Outcome → Type 0
Fine (read cs) = Unit {0}
Fine (refused n at) = ByReading n

before_fine : (c : Chapter) (rest : Outcome) → Fine rest → Fine (before c rest)
unfolding before
before_fine c (read cs) h = tt
before_fine c (refused n at) h = h

picked_fine : (b : Bool) (x y : Outcome) → Fine x → Fine y → Fine (pick b x y)
picked_fine true x y p q = p
picked_fine false x y p q = q

later_fine : (first : Spec) (k : ℕ) (bytes : List ℕ) (r : Reading) → galley_of bytes ≡ r → (rest : Outcome) → Fine rest → Fine (later first k bytes r rest)
unfolding later
later_fine first k bytes (Err r) e rest h = inl (refusal_number bytes r.number r.place e)
later_fine first k bytes (Ok g) e rest h =
    let c : Chapter = record { bytes = bytes; galley = g } in
    picked_fine (alike first g.spec) (pick (has_folio g) (refused 30 k) (before c rest)) (refused 29 k)
    (picked_fine (has_folio g) (refused 30 k) (before c rest) (inr (omega arith, omega arith)) (before_fine c rest h)) (inr (omega arith, omega arith))

from_fine : (bytes : List ℕ) (first : Spec) (k at : ℕ) (lengths : List ℕ) → Fine (later_from bytes first k at lengths)
unfolding later_from
from_fine bytes first k at [] = tt
from_fine bytes first k at (n ∷ ns) =
    later_fine first (k + 1) (slice at (at + n) bytes) (galley_of (slice at (at + n) bytes)) refl (later_from bytes first (k + 1) (at + n) ns)
    (from_fine bytes first (k + 1) (at + n) ns)

first_fine : (bytes : List ℕ) (n : ℕ) (ns : List ℕ) (r : Reading) → galley_of (slice 0 n bytes) ≡ r → Fine (first_of bytes n ns r)
unfolding first_of
first_fine bytes n ns (Err r) e = inl (refusal_number (slice 0 n bytes) r.number r.place e)
first_fine bytes n ns (Ok g) e =
    before_fine (record { bytes = slice 0 n bytes; galley = g }) (later_from bytes g.spec 1 n ns) (from_fine bytes g.spec 1 n ns)

chapters_fine : (bytes lengths : List ℕ) → Fine (chapters_of bytes lengths)
unfolding chapters_of
chapters_fine bytes [] = tt
chapters_fine bytes (n ∷ ns) = first_fine bytes n ns (galley_of (slice 0 n bytes)) refl

pub book_fine : (bytes lengths : List ℕ) → Fine (book_of bytes lengths)
unfolding book_of
book_fine bytes lengths =
    picked_fine (adds_up bytes lengths) (chapters_of bytes lengths) (refused 28 0) (chapters_fine bytes lengths) (inr (omega arith, omega arith))

-- The answer for a book, as an answer for a galley has it.
abbrev pub answer_in : BookAnswer → Answer
answer_in (Ok c) = counted_as c.pages c.x c.y c.turns c.white
answer_in (Err r) = Err r

-- The numbers of an answer for a book, but for the count.
abbrev pub numbers_in : BookMade → Numbers
numbers_in b = numbers_of (answer_in b.answer)

told_numbers : (a : Answer) (count : ℕ) → numbers_in (told_of a count) ≡ numbers_of a
told_numbers (Ok c) count = refl
told_numbers (Err r) count = refl

-- Of the answers that the choices have: what is no finished book is 11, and has no words.
bound_ends : {gs : List model.Galley} {a : Answer} {ws : List ℕ} → Binding gs a ws → Answered ByBook (numbers_of a)
unfolding book_counts
bound_ends (no_choice none) = turned {n = 11} (inl (omega arith, omega arith))
bound_ends (best_choice cs m fewest whitest) = finished

bound_silent : {gs : List model.Galley} {a : Answer} {ws : List ℕ} → Binding gs a ws → ¬ ((numbers_of a).number ≡ 0)
    → (ws ≡ []) × ((numbers_of a).number ≡ 11)
unfolding book_counts
bound_silent (no_choice none) away = (refl, refl)
bound_silent (best_choice cs m fewest whitest) away = absurd (away refl)

module _ {bytes lengths work list : List ℕ} {made : BookMade} {work' list' : List ℕ} (b : Bound bytes lengths work list made work' list') where
  -- Any book and any lent memory gets a finished book or one numbered refusal.
  pub book_answers : Answered ByBook (numbers_in made)
  unfolding book_read
  book_answers = subst (λ m. Answered ByBook (numbers_in m)) (sym b.answers) (go (book_of bytes lengths) (book_fine bytes lengths))
    where
      told : (x y : Bool) (cs : List Chapter)
          → Answered ByBook (numbers_in (pick x (told_of (answers.refused 9 (book_work cs)) 0)
          (pick y (told_of (answers.refused 10 (book_list cs)) 0) (told_of (book_made (models_of cs)) (all_weighed cs)))))
      told true y cs = turned {n = 9} (inl (omega arith, omega arith))
      told false true cs = turned {n = 10} (inl (omega arith, omega arith))
      told false false cs = rw (told_numbers (book_made (models_of cs)) (all_weighed cs)) (bound_ends (binding (models_of cs)))

      wider : (n : ℕ) → ByReading n → ByBook n
      wider n (inl h) = inl (h.0, omega (arith, h.1))
      wider n (inr h) = inr h

      go : (o : Outcome) → Fine o → Answered ByBook (numbers_in (book_read (length work) (length list) o))
      go (read cs) h = told (ltb (length work) (book_work cs)) (ltb (length list) (book_list cs)) cs
      go (refused n at) h = turned (wider n h)

  -- With memory that is long enough a book that is turned away is 11, and has no words.
  silent : (cs : List Chapter) → ¬ ((numbers_in made).number ≡ 0) → told_of (book_made (models_of cs)) (all_weighed cs) ≡ made
      → (book_words (models_of cs) ≡ []) × ((numbers_in made).number ≡ 11)
  silent cs away e =
      let told = told_numbers (book_made (models_of cs)) (all_weighed cs) in
      let is : (numbers_in made).number ≡ (numbers_of (book_made (models_of cs))).number =
      ap (λ m. (numbers_in m).number) (sym e) ∙ ap (λ n. n.number) told in
      let s = bound_silent (binding (models_of cs)) (λ z. away (is ∙ z)) in
      (s.0, is ∙ s.1)

  -- A refusal leaves the page list untouched,
  pub book_keeps_list : ¬ ((numbers_in made).number ≡ 0) → list' ≡ list
  unfolding book_read list_read
  book_keeps_list away = b.listed ∙ go (book_of bytes lengths) (sym b.answers)
    where
      go : (o : Outcome) → book_read (length work) (length list) o ≡ made → list_read (length work) list o ≡ list
      go (read cs) e =
          let words = book_words (models_of cs) in
          past_memory (λ short. pick short list (words ++ drop (length words) list) ≡ list) _ _ (told_of (book_made (models_of cs)) (all_weighed cs)) refl
          (λ e. let none = (silent cs away e).0 in rw none)
          (ltb (length work) (book_work cs)) (ltb (length list) (book_list cs)) e
      go (refused n at) e = refl

  -- and one other than 11 the work area too.
  pub book_keeps_work : ¬ ((numbers_in made).number ≡ 0) → ¬ ((numbers_in made).number ≡ 11) → work' ≡ work
  unfolding book_read work_read
  book_keeps_work away other = b.clean ∙ go (book_of bytes lengths) (sym b.answers)
    where
      go : (o : Outcome) → book_read (length work) (length list) o ≡ made → work_read work (length list) o ≡ work
      go (read cs) e =
          past_memory (λ short. pick short work (cleared (book_work cs) work) ≡ work) _ _ (told_of (book_made (models_of cs)) (all_weighed cs)) refl
          (λ e. absurd (other (silent cs away e).1))
          (ltb (length work) (book_work cs)) (ltb (length list) (book_list cs)) e
      go (refused n at) e = refl
