-- A book checked from outside: a chapter opened on a folio is what `mark` marks where its bytes state that folio (document 02, S-1 and S-9), so
-- that marking alone, of bytes alone, tells which lists of a book `AllAccepted` is about. `mark` is proved to answer `mark_of`.
use Rattle.std.specs.Prelude.{ℕ, ◌+◌, ◌≤◌, ◌≡◌, List, [], ◌∷◌}
use Rattle.std.proofs.Common.{arith, sym, ◌∙◌, ap, subst}
use Rattle.model.specs.Answers.{numbers_of, accepted, marked}
use Rattle.model.specs.Book.{open_on, folio_in, first_folio}
use Rattle.galley.specs.Model.{sides_in, model_of}
use Rattle.marking.specs.Mark.{mark_of}
use Rattle.chapters.specs.Book.{Chapter, read, book_of, models_of}
use Rattle.folios.specs.Chapters.{BookPlain, book_plain}
use Rattle.promises.specs.Marks.{AllAccepted, sum_marks}
use Rattle.promises.specs.Lost.{page_accepted}
use Rattle.promises.specs.Outside.{Outside, first_chapter_marked, marked_pages, later_inside, later_outside, LaterOutside}

-- For a book that was read: what marking accepts so, of bytes alone, are lists that `AllAccepted` is about, and the other way round where
-- the last folio can be stated.
pub book_outside : (bytes lengths : List ℕ) (cs : List Chapter) → book_of bytes lengths ≡ read cs → (lists : List (List ℕ))
    → (let f = first_folio (models_of cs) in
    (Outside cs lists → AllAccepted f (models_of cs) lists)
    × (f + marked_pages f (models_of cs) lists ≤ 10000 → AllAccepted f (models_of cs) lists → Outside cs lists))
unfolding Outside AllAccepted models_of sum_marks first_folio
book_outside bytes lengths cs e lists = go cs lists (book_plain bytes lengths cs e)
  where
    go : (cs : List Chapter) (lists : List (List ℕ)) → BookPlain cs
        → (let f = first_folio (models_of cs) in
        (Outside cs lists → AllAccepted f (models_of cs) lists)
        × (f + marked_pages f (models_of cs) lists ≤ 10000 → AllAccepted f (models_of cs) lists → Outside cs lists))
    go [] [] plain = (λ o. tt, λ last a. tt)
    go [] (ws ∷ rest) plain = (λ o. o, λ last a. a)
    go (c ∷ cs) [] plain = (λ o. o, λ last a. a)
    go (c ∷ cs) (ws ∷ rest) (reads, plain) =
        let f = folio_in (sides_in c.galley) in
        let m = open_on f (model_of c.bytes c.galley) in
        let is = first_chapter_marked c.bytes c.galley reads ws in (
          λ (taken, later).
              let page = page_accepted m ws (sym (ap accepted is) ∙ taken) in
              let pages = ap (λ a. (numbers_of a).pages) is in
              let next = later_inside (f + (numbers_of (mark_of c.bytes ws)).pages) cs rest plain (omega arith) later in
              (sym (ap accepted is) ∙ taken, subst (λ a. AllAccepted (f + (numbers_of a).pages) (models_of cs) rest) is next),
          λ last (taken, later).
              let page = page_accepted m ws taken in
              let next = later_outside (f + (numbers_of (marked m ws)).pages) cs rest plain (omega arith) (omega arith) later in
              (ap accepted is ∙ taken, subst (λ a. LaterOutside (f + (numbers_of a).pages) cs rest) (sym is) next),
        )
