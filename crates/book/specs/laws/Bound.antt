-- What making a book does, refusal by refusal.
use Rattle.std.specs.Prelude.{ℕ, suc, ◌*◌, ◌≤◌, ◌<◌, ◌≡◌, List, [], ◌∷◌, ◌++◌, take}
use Rattle.std.proofs.Common.{arith, sym, ◌∙◌, subst, drop_at}
use Rattle.std.proofs.Math.Path.{refl, ap}
use Rattle.std.proofs.Math.Bool.{true, false}
use Rattle.std.proofs.Math.ListN.{length, drop}
use Rattle.std.proofs.Math.Seq.{length-take-le}
use Rattle.std.proofs.Math.Dec.{ltb}
use borrow.Author.Tests.{lt-ltb, le-ltb}
use Rattle.needs.specs.Needs.{Few}
use Rattle.needs.specs.laws.Needs.{read_few, work_small, list_small}
use Rattle.places.specs.Entry.{cleared}
use Rattle.places.proofs.laws.Cleared.{cleared_forgets}
use Rattle.chapters.specs.declared.Book.{Book}
use Rattle.chapters.specs.Book.{Chapter, refused, book_of, largest, book_work, book_list}
use Rattle.chapters.specs.laws.Chapters.{chapter_at, chapters_many}
use Rattle.chapters.specs.laws.Answer.{IsRead}
use Rattle.galley.specs.declared.Galley.{Galley}
use Rattle.book.specs.declared.BookMade.{BookMade}
use Rattle.book.specs.Make.{told_of, book_read, work_read, list_read, Bound}
use Rattle.book.specs.Bind.{BookLent, Best}
use Rattle.model.specs.Answers as answers

-- A refusal of the book's own.
pub bound_refused : (bytes lengths work list : List ℕ) (number place : ℕ) → book_of bytes lengths ≡ refused number place
    → (answer : BookMade) → answer ≡ told_of (answers.refused number place) 0 → Bound bytes lengths work list answer work list
unfolding book_read work_read list_read
bound_refused bytes lengths work list number place e answer is =
    record {
      answers = is ∙ sym (ap (book_read (length work) (length list)) e);
      clean = sym (ap (work_read work (length list)) e);
      listed = sym (ap (list_read (length work) list) e);
    }

-- Chapters that are few come to little.
few_small : (cs : List Chapter) → ((j : ℕ) → j < length cs → (c : Chapter) (ds : List Chapter) → drop j cs ≡ c ∷ ds → Few c.galley)
    → (largest cs ≤ 410142510) × (book_list cs ≤ length cs * 12750)
unfolding largest book_list
few_small [] few = (omega arith, omega arith)
few_small (c ∷ cs) few =
    let here = few 0 (omega arith) c cs refl in
    let rest = few_small cs (λ j l. few (suc j) (omega arith)) in
    (omega (arith, work_small c.galley here, rest.0), omega (arith, list_small c.galley here, rest.1))

module _ {bytes lengths : List ℕ} {book : Book} (p : IsRead bytes lengths book) where
  abbrev chapters : List Chapter
  chapters = p.first ∷ p.rest

  largest_is : book.largest ≡ largest chapters
  largest_is = ap (λ (b : Book). b.largest) p.sized

  list_is : book.list ≡ book_list chapters
  list_is = ap (λ (b : Book). b.list) p.sized

  -- What a book needs is far from the end of a word.
  pub book_small : (book.largest ≤ 410142510) × (book.list ≤ 2550000)
  book_small =
      let s =
      few_small chapters (λ j l c ds e.
      let at = chapter_at bytes lengths p.first p.rest p.is j l in
      subst (λ (g : Galley). Few g) (ap galley_in (sym at.there ∙ e)) (read_few _ at.galley at.reads)) in
      let at = chapter_at bytes lengths p.first p.rest p.is 0 (omega arith) in
      let many = chapters_many bytes lengths p.first p.rest p.is in
      (omega (arith, largest_is, s.0), omega (arith, list_is, s.1, at.numbered.few))
    where
      galley_in : List Chapter → Galley
      galley_in [] = p.first.galley
      galley_in (c ∷ cs) = c.galley

  module _ (work list : List ℕ) where
    -- The work area is too short,
    pub bound_work : length work < 2 * book.largest → (answer : BookMade) → answer ≡ told_of (answers.refused 9 (2 * book.largest)) 0
        → Bound bytes lengths work list answer work list
    unfolding book_read work_read list_read book_work
    bound_work short answer is =
        let t : ltb (length work) (2 * largest chapters) ≡ true = lt-ltb (length work) (2 * largest chapters) (omega (arith, largest_is)) in
        let is' : answer ≡ told_of (answers.refused 9 (2 * largest chapters)) 0 = is ∙ ap (λ n. told_of (answers.refused 9 (2 * n)) 0) largest_is in
        record { answers = rw (p.is, t) is'; clean = rw (p.is, t) refl; listed = rw (p.is, t) refl }

    module _ (enough : 2 * book.largest ≤ length work) where
      wide : ltb (length work) (2 * largest chapters) ≡ false
      wide = le-ltb (length work) (2 * largest chapters) (omega (arith, largest_is))

      -- the page list is,
      pub bound_list : length list < book.list → (answer : BookMade) → answer ≡ told_of (answers.refused 10 book.list) 0
          → Bound bytes lengths work list answer work list
      unfolding book_read work_read list_read book_work
      bound_list short answer is =
          let t : ltb (length list) (book_list chapters) ≡ true = lt-ltb (length list) (book_list chapters) (omega (arith, list_is)) in
          let w = wide in
          let is' : answer ≡ told_of (answers.refused 10 (book_list chapters)) 0 = is ∙ ap (λ n. told_of (answers.refused 10 n) 0) list_is in
          record { answers = rw (p.is, w, t) is'; clean = rw (p.is, w, t) refl; listed = rw (p.is, w, t) refl }

      module _ (room : book.list ≤ length list) where
        -- or both are long enough, of which the book is lent what it needs.
        pub bound_lent : BookLent bytes lengths book (take (2 * book.largest) work) list
        bound_lent =
            let long = length-take-le (2 * book.largest) work enough in
            record {
              room = record { first = p.first; rest = p.rest; is = p.is; sized = p.sized; room = omega arith };
              holds = room;
            }

        -- Then the work words are cleared, and the best choice is written.
        pub bound_best : (answer : BookMade) (part work' list' : List ℕ) → Best bytes lengths (take (2 * book.largest) work) list answer part list'
            → work' ≡ cleared (2 * book.largest) (part ++ drop (2 * book.largest) work) → Bound bytes lengths work list answer work' list'
        unfolding book_read work_read list_read book_work
        bound_best answer part work' list' best clean =
            let n = 2 * book.largest in
            let l : ltb (length list) (book_list chapters) ≡ false = le-ltb (length list) (book_list chapters) (omega (arith, list_is)) in
            let w = wide in
            let long : length part ≡ n = best.lent ∙ length-take-le n work enough in
            let forgets = cleared_forgets n (part ++ drop n work) work (drop_at part (drop n work) n long) in
            let same : cleared n work ≡ cleared (2 * largest chapters) work = ap (λ k. cleared (2 * k) work) largest_is in
            record {
              answers = rw (p.is, w, l) (best.answers p.first p.rest p.is);
              clean = rw (p.is, w, l) (clean ∙ forgets ∙ same);
              listed = rw (p.is, w, l) (best.listed p.first p.rest p.is);
            }
