-- The third demand for books: no choice of a list for each chapter can beat the engine (document 02, S-9). For every book that reads
-- without refusal, and a work area and page list of at least the lengths laid down, whatever they hold. `Bound` is the contract of
-- `make_book`; marking is of each chapter's galley as the page model has it, opened on its folio.
use Rattle.std.specs.Prelude.{ℕ, ◌≤◌, ◌≡◌, ◌⊎◌, ◌↔◌, List, length}
use Rattle.std.proofs.Math.ListN.{take}
use Rattle.model.specs.Galley.{Galley}
use Rattle.model.specs.Answers.{numbers_of, refused}
use Rattle.model.specs.Book.{first_folio}
use Rattle.book.specs.declared.BookMade.{BookMade}
use Rattle.book.specs.Make.{told_of}
use Rattle.promises.specs.Marks.{AllAccepted, book_marked, joined}
use Rattle.promises.specs.BookAnswers.{numbers_in}

-- What is promised of the answer of making a book of these chapters, with so many pages weighed, and of the page list afterwards.
pub record BookDemand (gs : List Galley) (weighed : ℕ) (made : BookMade) (list' : List ℕ) : Type 0 where
  -- making returns a list for each chapter, or 11
  pub outcome : (made ≡ told_of (refused 11 0) weighed) ⊎ ((numbers_in made).number ≡ 0)
  -- the lists that it returns, one after another at the beginning of the page list, are accepted by marking, each where its chapter opens, and
  -- p, X, Y, T and W are those of the book by their marks
  pub same : (numbers_in made).number ≡ 0
      → (lists : List (List ℕ)) × AllAccepted (first_folio gs) gs lists × (made ≡ told_of (book_marked gs lists) weighed)
      × (take (length (joined lists)) list' ≡ joined lists)
  -- all lists that marking accepts, each where its chapter opens, come to at least as many turns
  pub least : (numbers_in made).number ≡ 0 → (lists : List (List ℕ)) → AllAccepted (first_folio gs) gs lists
      → (numbers_in made).turns ≤ (numbers_of (book_marked gs lists)).turns
  -- and where they have no more turns to at least as much white
  pub whitest : (numbers_in made).number ≡ 0 → (lists : List (List ℕ)) → AllAccepted (first_folio gs) gs lists
      → (numbers_of (book_marked gs lists)).turns ≤ (numbers_in made).turns → (numbers_in made).white ≤ (numbers_of (book_marked gs lists)).white
  -- 11 comes back exactly where there are no such lists
  pub none : ((numbers_in made).number ≡ 11) ↔ ((lists : List (List ℕ)) → AllAccepted (first_folio gs) gs lists → ⊥)
