-- A whole book from its chapters: every choice of chapter lists, each valid at the folio on which its chapter opens, and the best
-- choice, which is the meaning of making a book (document 02, S-9).
use Rattle.std.specs.Prelude.{ℕ, ◌+◌, ◌*◌, ◌-◌, Bool, List, [], ◌∷◌, ◌++◌, map, length, leb}
use Rattle.std.proofs.Math.Option.{Option, none, some}
use Rattle.model.specs.Galley.{Sides, single, double, Galley, respecified, Place, zeros}
use Rattle.model.specs.Leaf.{leaf}
use Rattle.model.specs.Turns.{x_of}
use Rattle.model.specs.White.{white}
use Rattle.model.specs.Answers.{Answer, counted_as, refused, words_of}
use Rattle.model.specs.Order.{then_by, by, lex, geb, oddly, starts_of}
use Rattle.model.specs.Best.{valid, first_of}

-- The sidedness of work that opens on folio f; single-sided work has no use for it (document 02, S-9).
unfoldable pub sides_on : ℕ → Sides → Sides
sides_on f single = single
sides_on f (double e) = double f

-- A chapter that opens on folio f (document 02, S-9).
unfoldable pub open_on : ℕ → Galley → Galley
open_on f g = respecified g.spec.htmin (sides_on f g.spec.sides) g.spec.lastmin g

-- The folio of the first page in work of this sidedness (document 02, S-1); single-sided work counts from 1.
unfoldable pub folio_in : Sides → ℕ
folio_in single = 1
folio_in (double f) = f

-- The folio on which the book opens, its first chapter's own (document 02, S-9).
unfoldable pub first_folio : List Galley → ℕ
first_folio [] = 1
first_folio (g ∷ gs) = folio_in g.spec.sides

-- A list of pages for each chapter (document 02, S-9).
abbrev pub Choice : Type 0
Choice = List (List Place)

-- What f has for each of some, one after another (notation).
unfoldable pub gathered : {A B : Type 0} → (A → List B) → List A → List B
gathered f [] = []
gathered f (x ∷ xs) = f x ++ gathered f xs

-- All choices for chapters of which the first opens on folio f: each list that is valid there, and after it each choice for the
-- chapters that follow, which open on the folio after its last (document 02, S-9).
unfoldable pub choices : ℕ → List Galley → List Choice
choices f [] = [] ∷ []
choices f (g ∷ gs) = gathered (λ ps. map (λ cs. ps ∷ cs) (choices (f + length ps) gs)) (valid (open_on f g))

-- A number of each chapter's list, summed, where the first chapter opens on folio f (document 02, S-9).
unfoldable pub summed : (Galley → List Place → ℕ) → ℕ → List Galley → Choice → ℕ
summed h f [] cs = 0
summed h f (g ∷ gs) [] = 0
summed h f (g ∷ gs) (ps ∷ cs) = h (open_on f g) ps + summed h (f + length ps) gs cs

-- The pages, X and the white of a book: the sums of its chapters' (document 02, S-9 and S-10).
unfoldable pub book_pages : ℕ → List Galley → Choice → ℕ
book_pages = summed (λ g ps. length ps)

unfoldable pub book_x : ℕ → List Galley → Choice → ℕ
book_x = summed x_of

unfoldable pub book_white : ℕ → List Galley → Choice → ℕ
book_white = summed white

-- Y of a book on p pages: the leaves turned from its first page to its last (document 02, S-9).
unfoldable pub book_y : ℕ → List Galley → ℕ → ℕ
book_y f [] p = 0
book_y f (g ∷ gs) p = leaf (sides_on f g.spec.sides) p - leaf (sides_on f g.spec.sides) 1

-- T of a book: its X and Y by the weights, which all its chapters share (document 02, S-9).
unfoldable pub book_turns : ℕ → List Galley → Choice → ℕ
book_turns f [] cs = 0
book_turns f (g ∷ gs) cs =
    g.spec.alpha * book_x f (g ∷ gs) cs + g.spec.beta * book_y f (g ∷ gs) (book_pages f (g ∷ gs) cs)

-- What a galley's tie order looks at, of a chapter's list: 1 for an odd last folio in double-sided work, and the starts of the
-- pages, the last page's first (document 01, "Making").
abbrev pub Tie : Type 0
Tie = ℕ × List Place

unfoldable pub tie_of : Galley → List Place → Tie
tie_of g ps = (oddly g.spec.sides (length ps), starts_of (zeros g) ps [])

-- A galley's tie order (document 01, "Making").
unfoldable pub tie_order : Tie → Tie → Bool
tie_order = then_by (by (λ t. t.0) leb) (by (λ t. t.1) (lex (lex geb)))

-- That of each chapter, put before `after`, the last chapter's first (document 02, S-9).
unfoldable pub ties_of : ℕ → List Galley → Choice → List Tie → List Tie
ties_of f [] cs after = after
ties_of f (g ∷ gs) [] after = after
ties_of f (g ∷ gs) (ps ∷ cs) after = ties_of (f + length ps) gs cs (tie_of (open_on f g) ps ∷ after)

-- The first choice is preferred to the second, or is as good: by turns, by white (document 02, S-10), then by the last chapter's
-- list in a galley's tie order, then by that of the chapter before it, and so on (document 02, S-9).
unfoldable pub book_before : ℕ → List Galley → Choice → Choice → Bool
book_before f gs =
    then_by (by (book_turns f gs) leb)
    (then_by (by (book_white f gs) leb) (by (λ cs. ties_of f gs cs []) (lex tie_order)))

-- The best choice: of all choices the first by that order (document 02, S-9).
unfoldable pub best_book : List Galley → Option Choice
best_book gs = first_of (book_before (first_folio gs) gs) (choices (first_folio gs) gs)

-- Page count, X, Y, T and W of a choice (document 02, S-9 and S-10).
unfoldable pub book_counts : ℕ → List Galley → Choice → Answer
book_counts f gs cs =
    counted_as (book_pages f gs cs) (book_x f gs cs) (book_y f gs (book_pages f gs cs)) (book_turns f gs cs) (book_white f gs cs)

-- The answer of making a book of chapters that read without refusal and are alike, with enough memory: the counts of the best
-- choice, or 11 (document 02, S-9).
unfoldable pub book_made : List Galley → Answer
book_made gs = elim (best_book gs) [ none ↦ refused 11 0 | some cs ↦ book_counts (first_folio gs) gs cs ]

-- The words that making a book writes to the page list: its chapters' pages, one chapter after another (document 02, S-9).
unfoldable pub book_words : List Galley → List ℕ
book_words gs = elim (best_book gs) [ none ↦ [] | some cs ↦ gathered words_of cs ]
