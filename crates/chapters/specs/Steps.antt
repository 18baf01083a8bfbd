-- Reading a book as the code does it, chapter after chapter.
use Rattle.std.specs.Prelude.{ℕ, ◌+◌, ◌*◌, ◌≤◌, ◌<◌, max, ◌≡◌, true, List, length, get_or, drop, Option, None, Some, Ok, Err}
use Rattle.std.proofs.Math.Seq.{slice}
use Rattle.model.specs.Gather.{pick}
use Rattle.galley.specs.declared.Spec.{Spec}
use Rattle.galley.specs.declared.Galley.{Galley}
use Rattle.galley.specs.Whole.{galley_of, Reading}
use Rattle.needs.specs.Needs.{work_needed, list_needed}
use Rattle.chapters.specs.declared.Book.{Book}
use Rattle.chapters.specs.Book.{Outcome, read, refused, BookReading, all_bytes, adds_up, chapter_start, alike, has_folio, later_from, chapters_of, reading_of, largest, book_list}

-- The bytes hold a galley.
abbrev pub Reads : List ℕ → Type 0
Reads bytes = (g : Galley) × (galley_of bytes ≡ Ok g)

-- What reading a chapter with this number gives: the number is the place of its refusal.
abbrev pub read_as : ℕ → Reading → Reading
read_as k (Ok g) = Ok g
read_as k (Err r) = Err (record { number = r.number; place = k })

-- There are so many lengths, and no more than a book may have.
pub record Numbered (lengths : List ℕ) (k : ℕ) : Type 0 where
  pub within : k ≤ length lengths
  pub few : length lengths ≤ 200

-- Chapter k, from 0, stands within the bytes.
pub record Stands (bytes lengths : List ℕ) (k : ℕ) : Type 0 where
  pub numbered : Numbered lengths (k + 1)
  pub within : chapter_start lengths k + get_or lengths k 0 ≤ length bytes

-- The lengths add up, and the first chapter was read.
pub record Opened (bytes lengths : List ℕ) (first : Galley) : Type 0 where
  pub adds : adds_up bytes lengths ≡ true
  pub reads : galley_of (slice 0 (get_or lengths 0 0) bytes) ≡ Ok first

-- The number of what makes a galley unfit to come after a first chapter with this specification, where something does.
unfoldable pub unfit_after : Spec → Galley → Option ℕ
unfit_after first g = pick (alike first g.spec) (pick (has_folio g) (Some 30) None) (Some 29)

-- The book with one chapter more.
abbrev pub with_chapter : Book → Galley → Book
with_chapter book g =
    record {
      chapters = book.chapters + 1;
      largest = max book.largest (work_needed g);
      list = book.list + list_needed g;
    }

-- There is room for one chapter more.
pub record Roomy (book : Book) : Type 0 where
  pub chapters : book.chapters < 200
  pub list : book.list ≤ book.chapters * 12750

-- What reading answers where some chapters were read, and the rest gives this.
unfoldable pub summed : Book → Outcome → BookReading
summed book (read cs) =
    Ok (record { chapters = book.chapters + length cs; largest = max book.largest (largest cs); list = book.list + book_list cs })
summed book (refused number place) = Err (record { number = number; place = place })

-- Reading from here gives what the whole reading gives. What is left of the bytes is what is left of the lengths.
pub record Underway (bytes lengths : List ℕ) (first : Spec) (book : Book) (at : ℕ) : Type 0 where
  pub some : 1 ≤ book.chapters
  pub within : book.chapters ≤ length lengths
  pub few : length lengths ≤ 200
  pub left : at + all_bytes (drop book.chapters lengths) ≡ length bytes
  pub list : book.list ≤ book.chapters * 12750
  pub goes : summed book (later_from bytes first book.chapters at (drop book.chapters lengths)) ≡ reading_of (chapters_of bytes lengths)
