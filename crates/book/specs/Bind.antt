-- What is known between the steps of making a book: the best route, and the chapters made along it.
use Rattle.std.specs.Prelude.{ℕ, ◌+◌, ◌-◌, ◌*◌, ◌≤◌, ◌≡◌, List, ◌∷◌, ◌++◌, length, drop, Ok}
use Rattle.std.proofs.Math.Option.{some}
use Rattle.model.specs.Leaf.{leaf}
use Rattle.model.specs.Turns.{x_of}
use Rattle.model.specs.White.{white}
use Rattle.model.specs.Book.{first_folio, Choice, book_pages, book_x, book_white, best_book, book_made, book_words}
use Rattle.theorems.specs.books.Course.{Course, coursed}
use Rattle.galley.specs.declared.Galley.{Galley}
use Rattle.galley.specs.Model.{sides_in, model_of}
use Rattle.chapters.specs.declared.Book.{Book}
use Rattle.chapters.specs.Book.{Chapter, read, book_of, models_of}
use Rattle.routes.specs.Room.{BookRoom}
use Rattle.course.specs.declared.Sums.{Sums}
use Rattle.course.specs.Trace.{followed, Leads}
use Rattle.course.specs.Weighed.{all_weighed}
use Rattle.course.specs.Course.{Small}
use Rattle.book.specs.declared.BookMade.{BookMade}
use Rattle.book.specs.Make.{told_of}

-- A book that was read, a work area and a page list as long as it needs.
pub record BookLent (bytes lengths : List ℕ) (book : Book) (work list : List ℕ) : Type 0 where
  pub room : BookRoom bytes lengths book work
  pub holds : book.list ≤ length list

-- The words of `from`, followed back from the folio that is last, are the folios of the best choice.
pub record OnRoute (c : Chapter) (cs : List Chapter) (from : List ℕ) (last : ℕ) : Type 0 where
  pub choice : Choice
  pub folios : List ℕ
  pub best : best_book (models_of (c ∷ cs)) ≡ some choice
  pub course : Course (model_of c.bytes c.galley) (first_folio (models_of (c ∷ cs))) (models_of (c ∷ cs)) choice folios last
  pub few : last ≤ 2
  pub leads : Leads from (length (c ∷ cs)) last
  pub follows : (after : List ℕ) → followed from (length (c ∷ cs)) last after ≡ folios ++ (last ∷ after)
  pub pages : book_pages (first_folio (models_of (c ∷ cs))) (models_of (c ∷ cs)) choice ≡ coursed (λ g ps. length ps) (models_of (c ∷ cs)) choice folios
  pub x : book_x (first_folio (models_of (c ∷ cs))) (models_of (c ∷ cs)) choice ≡ coursed x_of (models_of (c ∷ cs)) choice folios
  pub white : book_white (first_folio (models_of (c ∷ cs))) (models_of (c ∷ cs)) choice ≡ coursed white (models_of (c ∷ cs)) choice folios

-- The best route was found.
pub record RouteFound (bytes lengths : List ℕ) (book : Book) (from : List ℕ) (last : ℕ) (work list : List ℕ) : Type 0 where
  pub lent : BookLent bytes lengths book work list
  pub words : length from ≡ 400
  pub route : OnRoute lent.room.first lent.room.rest from last

-- Its chapters are made: what they come to is what the best choice does, and its words stand before the rest of the page list.
pub record AlongMade (bytes lengths work list : List ℕ) (sums : Sums) (work' list' : List ℕ) : Type 0 where
  pub small : Small sums
  pub pages : 1 ≤ sums.pages
  pub lent : length work' ≡ length work
  pub counts : (c : Chapter) (cs : List Chapter) → book_of bytes lengths ≡ read (c ∷ cs)
      → (choice : Choice) × (best_book (models_of (c ∷ cs)) ≡ some choice)
      × (sums.pages ≡ book_pages (first_folio (models_of (c ∷ cs))) (models_of (c ∷ cs)) choice)
      × (sums.x ≡ book_x (first_folio (models_of (c ∷ cs))) (models_of (c ∷ cs)) choice)
      × (sums.white ≡ book_white (first_folio (models_of (c ∷ cs))) (models_of (c ∷ cs)) choice)
  pub listed : (c : Chapter) (cs : List Chapter) → book_of bytes lengths ≡ read (c ∷ cs)
      → list' ≡ book_words (models_of (c ∷ cs)) ++ drop (length (book_words (models_of (c ∷ cs)))) list

-- The counts of a book by what its chapters come to: Y is that of its first and last page, and T follows (document 02, S-9).
abbrev pub counted_of : Galley → Sums → ℕ → BookMade
counted_of g sums count =
    let y = leaf (sides_in g) sums.pages - leaf (sides_in g) 1 in
    record {
      answer = Ok (record {
        pages = sums.pages;
        x = sums.x;
        y = y;
        turns = g.spec.alpha * sums.x + g.spec.beta * y;
        white = sums.white;
      });
      weighed = count;
    }

-- The pages of a book that opens on a folio: one at least, and no more than 200 chapters can have.
pub record Paged (folio pages : ℕ) : Type 0 where
  pub opens : 1 ≤ folio
  pub low : folio ≤ 9999
  pub some : 1 ≤ pages
  pub few : pages ≤ 850000

-- Weights and counts whose products are far from the end of 64 bits.
pub record Weighted (alpha x beta y : ℕ) : Type 0 where
  pub alphas : alpha ≤ 1000
  pub xs : x ≤ 858993459000
  pub betas : beta ≤ 1000
  pub ys : y ≤ 4294967295

-- A book that was read, and what its chapters come to, a page at least.
pub record Countable (bytes lengths : List ℕ) (sums : Sums) : Type 0 where
  pub first : Chapter
  pub rest : List Chapter
  pub is : book_of bytes lengths ≡ read (first ∷ rest)
  pub small : Small sums
  pub pages : 1 ≤ sums.pages

-- The best choice in memory that is long enough: its counts, or 11, and its words before the rest of the page list.
pub record Best (bytes lengths work list : List ℕ) (answer : BookMade) (work' list' : List ℕ) : Type 0 where
  pub lent : length work' ≡ length work
  pub answers : (c : Chapter) (cs : List Chapter) → book_of bytes lengths ≡ read (c ∷ cs)
      → answer ≡ told_of (book_made (models_of (c ∷ cs))) (all_weighed (c ∷ cs))
  pub listed : (c : Chapter) (cs : List Chapter) → book_of bytes lengths ≡ read (c ∷ cs)
      → list' ≡ book_words (models_of (c ∷ cs)) ++ drop (length (book_words (models_of (c ∷ cs)))) list
