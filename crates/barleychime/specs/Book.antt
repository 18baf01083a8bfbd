-- The answer for a book as eight words of 64 bits: number, place, p, X, Y, T, W and the count of what is weighed (document 02, S-9).
use Rattle.std.specs.Prelude.{ℕ, ◌≡◌, List, length}
use Rattle.chapters.specs.Book.{book_of}
use Rattle.book.specs.declared.BookMade.{BookMade}
use Rattle.book.specs.Make.{eight_of, number_of, book_read, work_read, list_read}

abbrev pub words_of : BookMade → List ℕ
words_of b = eight_of b.answer b.weighed

-- What a call of making a book returns and leaves: the answer's number and its words, and the lent memory as making the book leaves it.
pub record ExportedBook (bytes lengths work list : List ℕ) (number : ℕ) (work' list' words : List ℕ) : Type 0 where
  pub returned : number ≡ number_of (book_read (length work) (length list) (book_of bytes lengths)).answer
  pub told : words ≡ words_of (book_read (length work) (length list) (book_of bytes lengths))
  pub clean : work' ≡ work_read work (length list) (book_of bytes lengths)
  pub listed : list' ≡ list_read (length work) list (book_of bytes lengths)
