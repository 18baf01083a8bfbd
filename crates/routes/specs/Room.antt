-- A book that was read, and lent memory that is long enough for it.
use Rattle.std.specs.Prelude.{ℕ, suc, ◌*◌, ◌≤◌, ◌≡◌, List, ◌∷◌, length}
use Rattle.chapters.specs.declared.Book.{Book}
use Rattle.chapters.specs.Book.{Chapter, read, book_of, largest, book_list}

-- A book that was read, and a work area as long as it needs.
pub record BookRoom (bytes lengths : List ℕ) (book : Book) (work : List ℕ) : Type 0 where
  pub first : Chapter
  pub rest : List Chapter
  pub is : book_of bytes lengths ≡ read (first ∷ rest)
  pub sized : book ≡ record { chapters = suc (length rest); largest = largest (first ∷ rest); list = book_list (first ∷ rest) }
  pub room : 2 * book.largest ≤ length work
