-- A book read from its chapters, lent end to end with a list of their lengths (document 02, S-9). The type `Book`
-- is that of src/lib.rt.
use Rattle.std.specs.Prelude.{ℕ, ◌+◌, ◌*◌, max, Bool, not, ◌&&◌, List, [], ◌∷◌, map, length, get_or, take, ltb, eqb, Result, Err, Ok}
use Rattle.std.proofs.Math.Seq.{slice}
use Rattle.model.specs.Gather.{pick}
use Rattle.model.specs.Galley as model
use Rattle.galley.specs.declared.Spec.{Spec}
use Rattle.galley.specs.declared.Galley.{Galley}
use Rattle.galley.specs.Place.{spec_size}
use Rattle.galley.specs.Whole.{galley_of, Reading}
use Rattle.galley.specs.Model.{model_of}
use Rattle.needs.specs.Needs.{work_needed, list_needed}
use Rattle.model.specs.declared.answer.Refusal.{Refusal}
use Rattle.chapters.specs.declared.Book.{Book}

-- A chapter: its bytes, and the galley that they hold (document 02, S-9).
pub record Chapter : Type 0 where
  pub bytes : List ℕ
  pub galley : Galley

-- What the bytes of a book hold: its chapters, or the first refusal with its place (document 02, S-9).
pub data Outcome : Type 0 where
  read : List Chapter → Outcome
  refused : ℕ → ℕ → Outcome

-- The chapters of a book, none where it was refused.
unfoldable pub chapters_in : Outcome → List Chapter
chapters_in (read cs) = cs
chapters_in (refused number place) = []

-- What the chapters' lengths come to (document 02, S-9).
unfoldable pub all_bytes : List ℕ → ℕ
all_bytes [] = 0
all_bytes (n ∷ ns) = n + all_bytes ns

-- There are 1 to 200 chapters, whose lengths add up to the bytes (document 02, S-9, number 28).
unfoldable pub adds_up : List ℕ → List ℕ → Bool
adds_up bytes lengths =
    not (eqb (length lengths) 0) && not (ltb 200 (length lengths)) && eqb (all_bytes lengths) (length bytes)

-- Two specifications are alike in every field and in their edition (document 02, S-9 and S-11, number 29).
unfoldable pub alike : Spec → Spec → Bool
alike g h =
    eqb g.htmin h.htmin
    && (eqb g.htmax h.htmax
    && (eqb g.smin h.smin
    && (eqb g.smax h.smax
    && (eqb g.sides h.sides
    && (eqb g.alpha h.alpha
    && (eqb g.beta h.beta
    && (eqb g.edition h.edition
    && (eqb g.lastmin h.lastmin))))))))

-- The galley has an `FO`: something stands between its specification and line 1 (document 02, S-9, number 30).
unfoldable pub has_folio : Galley → Bool
has_folio g = ltb (spec_size g.spec.edition) g.text.first

-- A chapter, and those after it.
unfoldable pub before : Chapter → Outcome → Outcome
before c (read cs) = read (c ∷ cs)
before c (refused number place) = refused number place

-- Chapter k by what reading it gives, before those after it: its own refusal 1 to 8, then 29, then 30 (document 02, S-9).
unfoldable pub later : Spec → ℕ → List ℕ → Reading → Outcome → Outcome
later first k bytes (Err r) rest = refused r.number k
later first k bytes (Ok g) rest =
    pick (alike first g.spec)
    (pick (has_folio g) (refused 30 k) (before (record { bytes = bytes; galley = g }) rest))
    (refused 29 k)

-- The chapters after k others, the first of which has this specification; their bytes begin at an offset (document 02, S-9).
unfoldable pub later_from : List ℕ → Spec → ℕ → ℕ → List ℕ → Outcome
later_from bytes first k at [] = read []
later_from bytes first k at (n ∷ ns) =
    later first (k + 1) (slice at (at + n) bytes) (galley_of (slice at (at + n) bytes)) (later_from bytes first (k + 1) (at + n) ns)

-- The first chapter, of n bytes, by what reading it gives, and those after it, of these lengths (document 02, S-9).
unfoldable pub first_of : List ℕ → ℕ → List ℕ → Reading → Outcome
first_of bytes n ns (Err r) = refused r.number 1
first_of bytes n ns (Ok g) =
    before (record { bytes = slice 0 n bytes; galley = g }) (later_from bytes g.spec 1 n ns)

-- All chapters (document 02, S-9).
unfoldable pub chapters_of : List ℕ → List ℕ → Outcome
chapters_of bytes [] = read []
chapters_of bytes (n ∷ ns) = first_of bytes n ns (galley_of (slice 0 n bytes))

-- The book that bytes and lengths hold, or 28, or the first refusal of a chapter (document 02, S-9).
unfoldable pub book_of : List ℕ → List ℕ → Outcome
book_of bytes lengths = pick (adds_up bytes lengths) (chapters_of bytes lengths) (refused 28 0)

-- The chapters as the page model has them, each on its own folio (document 02, S-9).
unfoldable pub models_of : List Chapter → List model.Galley
models_of = map (λ c. model_of c.bytes c.galley)

-- The words of the work area that the largest chapter needs; a book needs twice as many (document 02, S-9).
unfoldable pub largest : List Chapter → ℕ
largest [] = 0
largest (c ∷ cs) = max (work_needed c.galley) (largest cs)

unfoldable pub book_work : List Chapter → ℕ
book_work cs = 2 * largest cs

-- The words of the page list: the sum of what the chapters need (document 02, S-9).
unfoldable pub book_list : List Chapter → ℕ
book_list [] = 0
book_list (c ∷ cs) = list_needed c.galley + book_list cs

-- What reading a book gives.
abbrev pub BookReading : Type 0
BookReading = Result Book Refusal

-- What reading a book answers: how many chapters there are and what they need, or the refusal.
unfoldable pub reading_of : Outcome → BookReading
reading_of (read cs) = Ok (record { chapters = length cs; largest = largest cs; list = book_list cs })
reading_of (refused number place) = Err (record { number = number; place = place })

-- Where chapter k, from 0, begins and ends in the bytes (document 02, S-9: the chapters are lent end to end).
abbrev pub chapter_start : List ℕ → ℕ → ℕ
chapter_start lengths k = all_bytes (take k lengths)

-- The bytes of chapter k.
abbrev pub chapter_bytes : List ℕ → List ℕ → ℕ → List ℕ
chapter_bytes bytes lengths k = slice (chapter_start lengths k) (chapter_start lengths k + get_or lengths k 0) bytes
