-- What is weighed of all chapters of a book that was read.
use Rattle.std.specs.Prelude.{ℕ, ◌+◌, ◌*◌, ◌≤◌, ◌≡◌, List, [], ◌∷◌, length, drop, Ok}
use Rattle.model.specs.Weighed.{weighed}
use Rattle.galley.specs.declared.Galley.{Galley}
use Rattle.galley.specs.Whole.{galley_of}
use Rattle.galley.specs.Model.{model_of}
use Rattle.chapters.specs.declared.Book.{Book}
use Rattle.chapters.specs.Book.{Chapter, read, book_of}

-- What is weighed of all chapters; the folio on which a chapter opens is not looked at (document 02, S-5 and S-9).
unfoldable pub all_weighed : List Chapter → ℕ
all_weighed [] = 0
all_weighed (c ∷ cs) = weighed (model_of c.bytes c.galley) + all_weighed cs

-- A book of so many chapters that was read.
pub record BookRead (bytes lengths : List ℕ) (book : Book) : Type 0 where
  pub first : Chapter
  pub rest : List Chapter
  pub is : book_of bytes lengths ≡ read (first ∷ rest)
  pub many : book.chapters ≡ length (first ∷ rest)

-- What is weighed of one: at most 4,001 · 10,251 starts and as many ends are paired.
pub record ChapterWeighed (bytes : List ℕ) (count : ℕ) : Type 0 where
  pub counts : (g : Galley) → galley_of bytes ≡ Ok g → count ≡ weighed (model_of bytes g)
  pub few : count ≤ 1682168785091001

-- The first k chapters are counted, and with the others they are all.
pub record Weighing (cs : List Chapter) (k sum : ℕ) : Type 0 where
  pub within : k ≤ length cs
  pub few : sum ≤ k * 1682168785091001
  pub goes : sum + all_weighed (drop k cs) ≡ all_weighed cs
