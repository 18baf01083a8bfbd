-- A book of one chapter is that chapter: where the lent memory is enough, making the book answers what making the galley answers, counts
-- as much and writes the same page list (document 02, S-9).
use Rattle.std.specs.Prelude.{ℕ, ◌+◌, ◌*◌, ◌≤◌, ◌≡◌, true, Ok}
use native.Mathlib.Omega.{arith}
use Rattle.std.proofs.Math.Path.{refl, ap}
use Rattle.std.proofs.Common.{◌∙◌, ap₂}
use mathlib.Core.List.{List, [], ◌∷◌, ◌++◌}
use Rattle.std.proofs.Math.ListN.{length, drop}
use Rattle.std.proofs.Math.Seq.{take-length}
use borrow.Author.Tests.{le-ltb, eq-eqb}
use Rattle.model.specs.Gather.{pick}
use Rattle.model.specs.Weighed.{weighed}
use Rattle.theorems.specs.books.One.{one_made, one_words}
use Rattle.galley.specs.declared.Galley.{Galley}
use Rattle.galley.specs.Whole.{galley_of}
use Rattle.galley.specs.Model.{model_of}
use Rattle.needs.specs.Needs.{work_needed, list_needed}
use Rattle.chapters.specs.Book.{Chapter, read, refused, all_bytes, adds_up, before, later_from, first_of, chapters_of, book_of, models_of, largest, book_work, book_list}
use Rattle.chapters.specs.laws.Alike.{some_folio_lem}
use Rattle.making.specs.Make.{make_read, make_of, list_read, list_after, weighed_read, weighed_of}
use Rattle.course.specs.Weighed.{all_weighed}
use Rattle.book.specs.declared.BookMade.{BookMade}
use Rattle.book.specs.Make.{told_of, book_read, Bound}
use Rattle.book.specs.Make as book

module _ (bytes : List ℕ) (g : Galley) (reads : galley_of bytes ≡ Ok g) where
  -- The only chapter.
  abbrev chapter : Chapter
  chapter = record { bytes = bytes; galley = g }

  one_adds : adds_up bytes (length bytes ∷ []) ≡ true
  unfolding adds_up all_bytes
  one_adds = let e : length bytes + 0 ≡ length bytes = omega arith in rw (eq-eqb (length bytes + 0) (length bytes) e) refl

  one_read : book_of bytes (length bytes ∷ []) ≡ read (chapter ∷ [])
  unfolding book_of chapters_of first_of later_from before
  one_read =
      ap (λ b. pick b (chapters_of bytes (length bytes ∷ [])) (refused 28 0)) one_adds
      ∙ ap (first_of bytes (length bytes) []) (ap galley_of (take-length bytes) ∙ reads)
      ∙ ap (λ s. read (record { bytes = s; galley = g } ∷ [])) (take-length bytes)

  -- A book of one chapter is made as the chapter is.
  pub one_chapter : {work list : List ℕ} {made : BookMade} {work' list' : List ℕ}
      → Bound bytes (length bytes ∷ []) work list made work' list' → 2 * work_needed g ≤ length work → list_needed g ≤ length list
      → (made ≡ told_of (make_of bytes (length work) (length list)) (weighed_of bytes (length work) (length list)))
      × (list' ≡ list_after bytes (length work) list)
  unfolding book_read book.list_read make_of make_read weighed_of weighed_read list_after list_read book_work book_list largest models_of all_weighed
  one_chapter {work} {list} {made} {work'} {list'} b enough room =
      let short = le-ltb (length work) (book_work (chapter ∷ [])) (omega arith) in
      let thin = le-ltb (length list) (book_list (chapter ∷ [])) (omega arith) in
      let few = le-ltb (length work) (work_needed g) (omega arith) in
      let low = le-ltb (length list) (list_needed g) room in
      let folio = some_folio_lem bytes (length bytes ∷ []) chapter [] one_read in
      let count : weighed (model_of bytes g) + 0 ≡ weighed (model_of bytes g) = omega arith in (
        b.answers ∙ rw (one_read, reads) (simp (short, thin, few, low) (ap₂ told_of (one_made (model_of bytes g) folio) count)),
        b.listed ∙ rw (one_read, reads) (simp (short, thin, few, low)
            (ap (λ l. l ++ drop (length l) list) (one_words (model_of bytes g) folio))),
      )
