-- What an answer to reading a book says of the book.
use Rattle.std.specs.Prelude.{ℕ, suc, List, [], ◌∷◌, ◌≡◌, refl, length, Err, Ok}
use Rattle.std.proofs.Common.{arith, sym, ◌∙◌, ap}
use Rattle.std.proofs.Math.Seq.{slice}
use Rattle.galley.specs.Whole.{galley_of, Reading}
use Rattle.chapters.specs.declared.Book.{Book}
use Rattle.model.specs.declared.answer.Refusal.{Refusal}
use Rattle.chapters.specs.Book.{Chapter, Outcome, read, refused, later_from, first_of, chapters_of, book_of, largest, book_list, reading_of, BookReading}
use Rattle.chapters.specs.laws.Lengths.{adding}
use Rattle.chapters.specs.laws.Opening.{added}
use Rattle.chapters.specs.laws.Later.{unread, before_read}
use Rattle.chapters.specs.laws.Chapters.{book_adds, no_chapter_lem}

first_some : (bytes : List ℕ) (n : ℕ) (ns : List ℕ) (r : Reading) → first_of bytes n ns r ≡ read [] → ⊥
unfolding first_of
first_some bytes n ns (Err r) h = unread h
first_some bytes n ns (Ok g) h =
    no_chapter_lem (before_read (record { bytes = slice 0 n bytes; galley = g }) (later_from bytes g.spec 1 n ns) [] h).2

-- A book that was read has a first chapter.
pub some_chapter : (bytes lengths : List ℕ) → book_of bytes lengths ≡ read [] → ⊥
unfolding chapters_of
some_chapter bytes [] e = absurd (omega (arith, (adding bytes [] (book_adds bytes [] [] e)).some))
some_chapter bytes (n ∷ ns) e =
    first_some bytes n ns (galley_of (slice 0 n bytes)) (sym (added bytes (n ∷ ns) (book_adds bytes (n ∷ ns) [] e)) ∙ e)

-- What reading answers of a book: its chapters, and what they need.
pub record IsRead (bytes lengths : List ℕ) (book : Book) : Type 0 where
  pub first : Chapter
  pub rest : List Chapter
  pub is : book_of bytes lengths ≡ read (first ∷ rest)
  pub sized : book ≡ record { chapters = suc (length rest); largest = largest (first ∷ rest); list = book_list (first ∷ rest) }

-- Either answer is kept apart from the other.
abbrev book_in : Book → BookReading → Book
book_in none (Ok book) = book
book_in none (Err r) = none

abbrev number_in : BookReading → ℕ
number_in (Ok book) = 0
number_in (Err r) = suc r.number

abbrev place_in : BookReading → ℕ
place_in (Ok book) = 0
place_in (Err r) = r.place

-- A book was answered: it was read.
pub answered : (bytes lengths : List ℕ) (book : Book) → Ok book ≡ reading_of (book_of bytes lengths) → IsRead bytes lengths book
unfolding reading_of
answered bytes lengths book = go (book_of bytes lengths) refl
  where
    go : (o : Outcome) → book_of bytes lengths ≡ o → Ok book ≡ reading_of o → IsRead bytes lengths book
    go (read []) e h = absurd (some_chapter bytes lengths e)
    go (read (c ∷ cs)) e h = record { first = c; rest = cs; is = e; sized = ap (book_in book) h }
    go (refused number place) e h = let z : ◌≡◌ {A = ℕ} 0 (suc number) = ap number_in h in absurd (omega arith)

-- A refusal was answered: it is the book's.
pub answered_refused : (bytes lengths : List ℕ) (r : Refusal) → Err r ≡ reading_of (book_of bytes lengths)
    → book_of bytes lengths ≡ refused r.number r.place
unfolding reading_of
answered_refused bytes lengths r = go (book_of bytes lengths)
  where
    go : (o : Outcome) → Err r ≡ reading_of o → o ≡ refused r.number r.place
    go (read cs) h = let z : ◌≡◌ {A = ℕ} (suc r.number) 0 = ap number_in h in absurd (omega arith)
    go (refused m p) h =
        let e : suc r.number ≡ suc m = ap number_in h in
        let d : m ≡ r.number = omega arith in
        rw (d, sym (ap place_in h)) refl
