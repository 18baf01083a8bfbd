-- A book by the marks of its chapters' lists: lists of words that marking accepts, each where its chapter opens, are the choices of valid
-- lists, with the same counts (document 02, S-9).
use native.Mathlib.Omega.{arith}
use Rattle.std.specs.Prelude.{ℕ, ◌+◌, ◌*◌, ◌≡◌, refl, true, List, [], ◌∷◌, ◌++◌, map, length}
use Rattle.std.proofs.Common.{sym, ◌∙◌, ap, ap₂, subst}
use mathlib.Core.List.Memᴰ
use Rattle.model.specs.declared.answer.Numbers.{Numbers}
use Rattle.model.specs.Galley.{Galley, Place}
use Rattle.model.specs.Turns.{x_of}
use Rattle.model.specs.White.{white}
use Rattle.model.specs.Answers.{numbers_of, accepted, words_of, counts_of, marked, Answer, counted_as}
use Rattle.model.specs.Best.{valid}
use Rattle.model.specs.Book.{open_on, first_folio, Choice, gathered, choices, summed, book_pages, book_x, book_white, book_y, book_turns, book_counts}
use Rattle.model.specs.laws.Lists.{◌∈◌}
use Rattle.model.proofs.laws.Lists.{∈-map}
use Rattle.model.proofs.laws.Valid.{accepted_valid}
use Rattle.model.proofs.laws.Book.{∈-gathered}
use Rattle.theorems.specs.turns.LeastTurns.{valid_counts}
use Rattle.theorems.specs.books.Backward.{only_empty, opened}

-- Marking accepts a list for each chapter, of which the first opens on folio f, each later one on the folio after the one before.
unfoldable pub AllAccepted : ℕ → List Galley → List (List ℕ) → Type 0
AllAccepted f [] [] = Unit {0}
AllAccepted f [] (ws ∷ rest) = ⊥
AllAccepted f (g ∷ gs) [] = ⊥
AllAccepted f (g ∷ gs) (ws ∷ rest) =
    (accepted (marked (open_on f g) ws) ≡ true) × AllAccepted (f + (numbers_of (marked (open_on f g) ws)).pages) gs rest

-- A number of each chapter's mark, summed.
unfoldable pub sum_marks : (Numbers → ℕ) → ℕ → List Galley → List (List ℕ) → ℕ
sum_marks h f [] lists = 0
sum_marks h f (g ∷ gs) [] = 0
sum_marks h f (g ∷ gs) (ws ∷ rest) =
    h (numbers_of (marked (open_on f g) ws)) + sum_marks h (f + (numbers_of (marked (open_on f g) ws)).pages) gs rest

-- X and Y by the weights of a book, its first chapter's.
unfoldable pub weighted : List Galley → ℕ → ℕ → ℕ
weighted [] x y = 0
weighted (g ∷ gs) x y = g.spec.alpha * x + g.spec.beta * y

-- The counts of a book by the marks of its chapters: p, X and W are their sums, Y is that of the book's first and last page, and T is
-- X and Y by the weights.
unfoldable pub book_marked : List Galley → List (List ℕ) → Answer
book_marked gs lists =
    let f = first_folio gs in
    let p = sum_marks (λ n. n.pages) f gs lists in
    let x = sum_marks (λ n. n.x) f gs lists in
    counted_as p x (book_y f gs p) (weighted gs x (book_y f gs p)) (sum_marks (λ n. n.white) f gs lists)

-- The chapters' lists, one after another.
abbrev pub joined : List (List ℕ) → List ℕ
joined = gathered (λ ws. ws)

-- A valid list's mark has as many pages.
mark_pages : (g : Galley) (ps : List Place) → ps ∈ valid g → (numbers_of (marked g (words_of ps))).pages ≡ length ps
unfolding counts_of
mark_pages g ps m = ap (λ a. (numbers_of a).pages) (valid_counts g ps m)

-- Marking accepts the lists of a choice,
pub choice_accepted : (f : ℕ) (gs : List Galley) (cs : Choice) → cs ∈ choices f gs → AllAccepted f gs (map words_of cs)
unfolding AllAccepted
choice_accepted f [] cs m = rw (only_empty f cs m) tt
choice_accepted f (g ∷ gs) cs m =
    let o = opened f g gs cs m in
    let pages = ap (λ n. f + n) (sym (mark_pages (open_on f g) o.list o.lawful)) in
    rw o.is (
      (accepted_valid (open_on f g) (words_of o.list)).1 (o.list, o.lawful, refl),
      subst (λ n. AllAccepted n gs (map words_of o.rest)) pages (choice_accepted (f + length o.list) gs o.rest o.later),
    )

-- and what it accepts are the lists of a choice.
pub accepted_choice : (f : ℕ) (gs : List Galley) (lists : List (List ℕ)) → AllAccepted f gs lists
    → (cs : Choice) × (cs ∈ choices f gs) × (map words_of cs ≡ lists)
unfolding AllAccepted choices
accepted_choice f [] [] a = ([], Memᴰ.head refl, refl)
accepted_choice f [] (ws ∷ rest) a = absurd a
accepted_choice f (g ∷ gs) [] a = absurd a
accepted_choice f (g ∷ gs) (ws ∷ rest) a =
    let (ps, m, e) = (accepted_valid (open_on f g) ws).0 a.0 in
    let pages = ap (λ w. f + (numbers_of (marked (open_on f g) w)).pages) (sym e) ∙ ap (λ n. f + n) (mark_pages (open_on f g) ps m) in
    let (cs, n, d) = accepted_choice (f + length ps) gs rest (subst (λ n. AllAccepted n gs rest) pages a.1) in (
      ps ∷ cs,
      ∈-gathered (λ ps. map (λ cs. ps ∷ cs) (choices (f + length ps) gs)) ps (ps ∷ cs) (valid (open_on f g)) m (∈-map (λ cs. ps ∷ cs) cs _ n),
      ap₂ (λ w ws. w ∷ ws) e d,
    )

-- The sums are those of the choice.
sum_marks_lem : (h : Numbers → ℕ) (k : Galley → List Place → ℕ) → ((g : Galley) (ps : List Place) → h (numbers_of (counts_of g ps)) ≡ k g ps)
    → (f : ℕ) (gs : List Galley) (cs : Choice) → cs ∈ choices f gs → sum_marks h f gs (map words_of cs) ≡ summed k f gs cs
unfolding sum_marks summed
sum_marks_lem h k same f [] cs m = refl
sum_marks_lem h k same f (g ∷ gs) cs m =
    let o = opened f g gs cs m in
    let pages = ap (λ n. f + n) (mark_pages (open_on f g) o.list o.lawful) in
    let this = ap (λ a. h (numbers_of a)) (valid_counts (open_on f g) o.list o.lawful) ∙ same (open_on f g) o.list in
    let rest = ap (λ n. sum_marks h n gs (map words_of o.rest)) pages ∙ sum_marks_lem h k same (f + length o.list) gs o.rest o.later in
    rw o.is (ap₂ (λ a b. a + b) this rest)

turns_weighted : (f : ℕ) (gs : List Galley) (cs : Choice) → weighted gs (book_x f gs cs) (book_y f gs (book_pages f gs cs)) ≡ book_turns f gs cs
unfolding weighted book_turns
turns_weighted f gs cs = grind arith

-- The counts by the marks are those of the choice.
pub choice_marked : (gs : List Galley) (cs : Choice) → cs ∈ choices (first_folio gs) gs
    → book_marked gs (map words_of cs) ≡ book_counts (first_folio gs) gs cs
unfolding book_marked book_counts book_pages book_x book_white counts_of
choice_marked gs cs m =
    let f = first_folio gs in
    let p = sum_marks_lem (λ n. n.pages) (λ g ps. length ps) (λ g ps. refl) f gs cs m in
    let x = sum_marks_lem (λ n. n.x) x_of (λ g ps. refl) f gs cs m in
    let w = sum_marks_lem (λ n. n.white) white (λ g ps. refl) f gs cs m in
    rw (p, x, w)
    (ap (λ t. counted_as (book_pages f gs cs) (book_x f gs cs) (book_y f gs (book_pages f gs cs)) t (book_white f gs cs)) (turns_weighted f gs cs))

-- So are the words.
pub choice_joined : (cs : Choice) → joined (map words_of cs) ≡ gathered words_of cs
unfolding gathered
choice_joined [] = refl
choice_joined (ps ∷ cs) = ap (λ l. words_of ps ++ l) (choice_joined cs)
