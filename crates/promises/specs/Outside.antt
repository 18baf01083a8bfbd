-- A book checked from outside: a chapter opened on a folio is what `mark` marks where its bytes state that folio (document 02, S-1 and S-9), so
-- that marking alone, of bytes alone, tells which lists of a book `AllAccepted` is about. `mark` is proved to answer `mark_of`.
use Rattle.std.specs.Prelude.{ℕ, ◌+◌, ◌≤◌, ◌≡◌, true, false, List, [], ◌∷◌, Ok}
use Rattle.std.proofs.Common.{arith, sym, ◌∙◌, ap, subst}
use Rattle.std.proofs.Math.Path.{refl}
use Rattle.model.specs.Galley as model
use Rattle.model.specs.Answers.{numbers_of, accepted, marked}
use Rattle.model.specs.Book.{sides_on, open_on, folio_in}
use Rattle.galley.specs.declared.Galley.{Galley}
use Rattle.galley.specs.Range.{FolioRanged}
use Rattle.galley.specs.Whole.{galley_of}
use Rattle.galley.specs.Model.{sides_in, model_of}
use Rattle.marking.specs.Mark.{mark_of}
use Rattle.chapters.specs.Book.{Chapter, has_folio, models_of}
use Rattle.folios.specs.Stating.{stating, opened}
use Rattle.folios.proofs.Opened.{reads_opened, model_opened}
use Rattle.folios.specs.Chapters.{AllPlain}
use Rattle.promises.specs.SecondDemand.{mark_is}
use Rattle.promises.specs.Marks.{AllAccepted, sum_marks}
use Rattle.promises.specs.Lost.{page_accepted}

-- For a galley without `FO` and a folio from 1 to 9,999: marking the bytes with that `FO` put in answers what marking means for the chapter
-- opened on the folio.
pub chapter_marked : (bytes : List ℕ) (g : Galley) → galley_of bytes ≡ Ok g → has_folio g ≡ false → (f : ℕ) → 1 ≤ f → f ≤ 9999
    → (words : List ℕ) → mark_of (stating f bytes) words ≡ marked (open_on f (model_of bytes g)) words
chapter_marked bytes g e none f some few words =
    let fine : FolioRanged f = record { some = some; few = few } in
    mark_is (stating f bytes) words (opened f g) (reads_opened bytes g e none f fine)
    ∙ ap (λ m. marked m words) (model_opened bytes g e none f fine)

-- The first chapter opens on its own folio, so that it is the galley itself:
own_folio : (m : model.Galley) → open_on (folio_in m.spec.sides) m ≡ m
unfolding open_on
own_folio m = ap (λ s. model.respecified m.spec.htmin s m.spec.lastmin m) (go m.spec.sides)
  where
    go : (s : model.Sides) → sides_on (folio_in s) s ≡ s
    go model.single = unfold sides_on in refl
    go (model.double f) = unfold sides_on in unfold folio_in in refl

-- marking its bytes as they are answers so.
pub first_chapter_marked : (bytes : List ℕ) (g : Galley) → galley_of bytes ≡ Ok g → (words : List ℕ)
    → mark_of bytes words ≡ marked (open_on (folio_in (sides_in g)) (model_of bytes g)) words
first_chapter_marked bytes g e words = mark_is bytes words g e ∙ ap (λ m. marked m words) (sym (own_folio (model_of bytes g)))

-- Marking accepts a list for each later chapter, whose bytes have the folio put in on which it opens, up to 9,999: the first of them opens on
-- folio f, each later one on the folio after the one before.
unfoldable pub LaterOutside : ℕ → List Chapter → List (List ℕ) → Type 0
LaterOutside f [] [] = Unit {0}
LaterOutside f [] (ws ∷ rest) = ⊥
LaterOutside f (c ∷ cs) [] = ⊥
LaterOutside f (c ∷ cs) (ws ∷ rest) =
    (f ≤ 9999) × (accepted (mark_of (stating f c.bytes) ws) ≡ true)
    × LaterOutside (f + (numbers_of (mark_of (stating f c.bytes) ws)).pages) cs rest

-- Marking accepts a list for each chapter of a book: for the first, whose bytes are marked as they are, and for each later one.
unfoldable pub Outside : List Chapter → List (List ℕ) → Type 0
Outside [] [] = Unit {0}
Outside [] (ws ∷ rest) = ⊥
Outside (c ∷ cs) [] = ⊥
Outside (c ∷ cs) (ws ∷ rest) =
    (accepted (mark_of c.bytes ws) ≡ true)
    × LaterOutside (folio_in (sides_in c.galley) + (numbers_of (mark_of c.bytes ws)).pages) cs rest

-- The pages of the lists by their marks.
abbrev pub marked_pages : ℕ → List model.Galley → List (List ℕ) → ℕ
marked_pages = sum_marks (λ n. n.pages)

-- Each later chapter opened on its folio is marked so,
pub later_inside : (f : ℕ) (cs : List Chapter) (lists : List (List ℕ)) → AllPlain cs → 1 ≤ f → LaterOutside f cs lists → AllAccepted f (models_of cs) lists
unfolding LaterOutside AllAccepted models_of
later_inside f [] [] plain some o = tt
later_inside f [] (ws ∷ rest) plain some o = o
later_inside f (c ∷ cs) [] plain some o = o
later_inside f (c ∷ cs) (ws ∷ rest) plain some (few, taken, later) =
    let is = chapter_marked c.bytes c.galley plain.0.reads plain.0.none f some few ws in
    let next = later_inside (f + (numbers_of (mark_of (stating f c.bytes) ws)).pages) cs rest plain.1 (omega arith) later in
    (sym (ap accepted is) ∙ taken, subst (λ a. AllAccepted (f + (numbers_of a).pages) (models_of cs) rest) is next)

-- and the other way round, where the last folio is at most 9,999.
pub later_outside : (f : ℕ) (cs : List Chapter) (lists : List (List ℕ)) → AllPlain cs → 1 ≤ f → f + marked_pages f (models_of cs) lists ≤ 10000
    → AllAccepted f (models_of cs) lists → LaterOutside f cs lists
unfolding LaterOutside AllAccepted models_of sum_marks
later_outside f [] [] plain some last a = tt
later_outside f [] (ws ∷ rest) plain some last a = a
later_outside f (c ∷ cs) [] plain some last a = a
later_outside f (c ∷ cs) (ws ∷ rest) plain some last (taken, later) =
    let m = open_on f (model_of c.bytes c.galley) in
    let page = page_accepted m ws taken in
    let few : f ≤ 9999 = omega arith in
    let is = chapter_marked c.bytes c.galley plain.0.reads plain.0.none f some few ws in
    let next = later_outside (f + (numbers_of (marked m ws)).pages) cs rest plain.1 (omega arith) (omega arith) later in
    (few, ap accepted is ∙ taken, subst (λ a. LaterOutside (f + (numbers_of a).pages) cs rest) (sym is) next)
