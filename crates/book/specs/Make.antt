-- The meaning of making a book: its answer, and what the lent memory holds afterwards (document 02, S-9). The type `BookMade` is that of
-- src/lib.rt.
use Rattle.std.specs.Prelude.{ℕ, ◌≡◌, Bool, ◌||◌, List, [], ◌∷◌, ◌++◌, length, drop, ltb, Result, Ok, Err}
use Rattle.model.specs.Gather.{pick}
use Rattle.model.specs.Answers.{Answer}
use Rattle.model.specs.Answers as answers
use Rattle.model.specs.Book.{book_made, book_words}
use Rattle.places.specs.Entry.{cleared}
use Rattle.chapters.specs.Book.{Chapter, Outcome, read, refused, book_of, models_of, book_work, book_list}
use Rattle.course.specs.Weighed.{all_weighed}
use Rattle.model.specs.declared.answer.Refusal.{Refusal}
use Rattle.book.specs.declared.BookCounted.{BookCounted}
use Rattle.book.specs.declared.BookMade.{BookMade}

-- The counts of a book, or its refusal.
abbrev pub BookAnswer : Type 0
BookAnswer = Result BookCounted Refusal

-- An answer as a book has it, whose counts may be longer.
abbrev pub book_answer : Answer → BookAnswer
book_answer (Ok c) = Ok (record { pages = c.pages; x = c.x; y = c.y; turns = c.turns; white = c.white })
book_answer (Err r) = Err r

-- An answer and the count of what is weighed.
abbrev pub told_of : Answer → ℕ → BookMade
told_of answer count = record { answer = book_answer answer; weighed = count }

-- The answer's eight numbers: those of a refusal, or 0 and 0 and the counts, and the count of what is weighed.
abbrev pub eight_of : BookAnswer → ℕ → List ℕ
eight_of (Ok c) count = 0 ∷ 0 ∷ c.pages ∷ c.x ∷ c.y ∷ c.turns ∷ c.white ∷ count ∷ []
eight_of (Err r) count = r.number ∷ r.place ∷ 0 ∷ 0 ∷ 0 ∷ 0 ∷ 0 ∷ count ∷ []

-- The number of a refusal, 0 of counts.
abbrev pub number_of : BookAnswer → ℕ
number_of (Ok c) = 0
number_of (Err r) = r.number

-- A work area or a page list of the given lengths is too short.
abbrev pub too_short : List Chapter → ℕ → ℕ → Bool
too_short cs work list = ltb work (book_work cs) || ltb list (book_list cs)

-- The answer for what reading the book gave: a refusal of its own, then 9, then 10, each with the words needed, then the counts of the
-- best choice, or 11.
unfoldable pub book_read : ℕ → ℕ → Outcome → BookMade
book_read work list (refused number place) = told_of (answers.refused number place) 0
book_read work list (read cs) =
    pick (ltb work (book_work cs)) (told_of (answers.refused 9 (book_work cs)) 0)
    (pick (ltb list (book_list cs)) (told_of (answers.refused 10 (book_list cs)) 0) (told_of (book_made (models_of cs)) (all_weighed cs)))

-- The work area afterwards: where a choice was sought, the words that the book needs are zeros; nothing else changes.
unfoldable pub work_read : List ℕ → ℕ → Outcome → List ℕ
work_read work list (refused number place) = work
work_read work list (read cs) = pick (too_short cs (length work) list) work (cleared (book_work cs) work)

-- The page list afterwards: the words of the best choice, if there is one, before what was there; else as it was.
unfoldable pub list_read : ℕ → List ℕ → Outcome → List ℕ
list_read work list (refused number place) = list
list_read work list (read cs) =
    pick (too_short cs work (length list)) list (book_words (models_of cs) ++ drop (length (book_words (models_of cs))) list)

-- What making a book does: its answer, and every word of the work area and of the page list afterwards.
pub record Bound (bytes lengths work list : List ℕ) (answer : BookMade) (work' list' : List ℕ) : Type 0 where
  pub answers : answer ≡ book_read (length work) (length list) (book_of bytes lengths)
  pub clean : work' ≡ work_read work (length list) (book_of bytes lengths)
  pub listed : list' ≡ list_read (length work) list (book_of bytes lengths)
