-- The chapters along the best route can be made, and then they are the best choice.
use Rattle.std.specs.Prelude.{ℕ, ◌+◌, ◌≤◌, ◌≡◌, List, [], ◌∷◌, ◌++◌, length, drop}
use Rattle.std.proofs.Common.{arith, sym, ◌∙◌, ap}
use Rattle.std.proofs.Math.Option.{Option, none, some}
use Rattle.model.specs.Galley as model
use Rattle.model.specs.Answers.{words_of}
use Rattle.model.specs.Book.{first_folio, Choice, gathered, best_book, book_words}
use Rattle.theorems.specs.books.Turns.{some_page}
use Rattle.theorems.specs.books.Best.{alike_self}
use Rattle.theorems.specs.books.Course.{Course, coursed}
use Rattle.theorems.specs.books.Choosing.{AllAlike}
use Rattle.galley.specs.Model.{model_of}
use Rattle.chapters.specs.declared.Book.{Book}
use Rattle.chapters.specs.Book.{Chapter, models_of}
use Rattle.chapters.specs.laws.Chapters.{chapter_at}
use Rattle.chapters.specs.laws.Later.{chapters_read, read_same}
use Rattle.chapters.specs.laws.Alike.{all_alike}
use Rattle.course.specs.declared.Sums.{Sums}
use Rattle.course.specs.Trace.{followed, Followable}
use Rattle.course.specs.Course.{no_sums, lists_of, sums_of, over, written_of, CourseRoom, CourseMade}
use Rattle.course.specs.laws.Chapter.{closing_is_valid}
use Rattle.course.specs.laws.Words.{written_all}
use Rattle.course.specs.laws.Along.{course_leads, course_sums, sums_at}
use Rattle.book.specs.Bind.{RouteFound, AlongMade}

-- A course through a chapter at least has a page.
course_pages : (h : model.Galley) (f : ℕ) (c : Chapter) (cs : List Chapter) (choice : Choice) (os : List ℕ) (last : ℕ)
    → Course h f (models_of (c ∷ cs)) choice os last → 1 ≤ coursed (λ g ps. length ps) (models_of (c ∷ cs)) choice os
unfolding models_of Course coursed
course_pages h f c cs [] os last e = absurd e
course_pages h f c cs (ps ∷ choice) [] last e = absurd e
course_pages h f c cs (ps ∷ choice) (o ∷ os) last e =
    let some = some_page _ ps (closing_is_valid _ _ ps e.1) in omega arith

-- The words of the best choice.
words_best : (c : Chapter) (cs : List Chapter) (choice : Choice) → best_book (models_of (c ∷ cs)) ≡ some choice
    → book_words (models_of (c ∷ cs)) ≡ gathered words_of choice
unfolding book_words
words_best c cs choice e = ap (λ (o : Option Choice). elim o [ none ↦ [] | some cs ↦ gathered words_of cs ]) e

module _ {bytes lengths : List ℕ} {book : Book} {from : List ℕ} {last : ℕ} {work list : List ℕ}
    (p : RouteFound bytes lengths book from last work list) where
  abbrev first : Chapter
  first = p.lent.room.first

  abbrev rest : List Chapter
  rest = p.lent.room.rest

  many : book.chapters ≡ length (first ∷ rest)
  many = ap (λ (b : Book). b.chapters) p.lent.room.sized

  few : book.chapters ≤ 200
  few =
      let at = (chapter_at bytes lengths first rest p.lent.room.is (length rest) (omega arith)).numbered in
      omega (arith, many, at.within, at.few)

  -- The way back can be followed,
  pub along_followable : (folios : List ℕ) → length folios ≡ 201 → Followable from book.chapters last folios
  along_followable folios long =
      record {
        few = few;
        leads = rw many p.route.leads;
        words = omega (arith, few, p.words);
        room = omega (arith, few);
      }

  module _ (folios after : List ℕ) (is : folios ≡ followed from book.chapters last after) where
    course_is : folios ≡ p.route.folios ++ (last ∷ after)
    course_is = is ∙ ap (λ n. followed from n last after) many ∙ p.route.follows after

    alike : AllAlike (model_of first.bytes first.galley) (models_of (first ∷ rest))
    unfolding AllAlike models_of
    alike = (alike_self (model_of first.bytes first.galley), all_alike bytes lengths first rest p.lent.room.is)

    -- the chapters along it made,
    pub along_room : length folios ≡ 201 → CourseRoom bytes lengths book folios work list
    along_room long =
        let largest_is = ap (λ (b : Book). b.largest) p.lent.room.sized in
        let list_is = ap (λ (b : Book). b.list) p.lent.room.sized in
        record {
          first = first;
          rest = rest;
          is = p.lent.room.is;
          many = many;
          opens = omega (arith, few, many);
          leads = rw course_is (course_leads _ last p.route.few after _ (first ∷ rest) p.route.choice p.route.folios alike p.route.course).1;
          enough = omega (arith, p.lent.room.room);
          room = omega (arith, p.lent.holds);
        }

    -- and they are the best choice.
    pub along_made : {sums : Sums} {work' list' : List ℕ} → CourseMade bytes lengths folios work list sums work' list'
        → AlongMade bytes lengths work list sums work' list'
    along_made {sums} {work'} {list'} m =
        let choice = p.route.choice in
        let read_is = chapters_read p.lent.room.is in
        let lists : lists_of (first ∷ rest) folios ≡ choice =
        ap (lists_of (first ∷ rest)) course_is ∙ (course_leads _ last p.route.few after _ (first ∷ rest) choice p.route.folios alike p.route.course).0 in
        let adds : sums ≡ sums_of (first ∷ rest) folios no_sums = m.adds ∙ ap (λ cs. sums_of cs folios no_sums) read_is in
        let adds' : sums ≡ sums_of (first ∷ rest) (p.route.folios ++ (last ∷ after)) no_sums = adds ∙ ap (λ fs. sums_of (first ∷ rest) fs no_sums) course_is in
        let (pages, x, white) = course_sums _ last p.route.few after _ (first ∷ rest) choice p.route.folios alike p.route.course no_sums in
        let at = ap (λ (s : Sums). s.at) adds ∙ sums_at (first ∷ rest) folios no_sums in
        let long = ap (λ cs. length (gathered words_of cs)) lists in
        let written : list' ≡ written_of choice 0 list =
        m.listed ∙ ap (λ cs. written_of (lists_of cs folios) 0 list) read_is ∙ ap (λ cs. written_of cs 0 list) lists in
        let whole : written_of choice 0 list ≡ over 0 (gathered words_of choice) list = written_all choice 0 list (omega (arith, m.fits)) in
        let z : 0 + length (gathered words_of choice) ≡ length (gathered words_of choice) = omega arith in
        let words = words_best first rest choice p.route.best in
        let listed : list' ≡ book_words (models_of (first ∷ rest)) ++ drop (length (book_words (models_of (first ∷ rest)))) list =
        written ∙ whole ∙ ap (λ n. gathered words_of choice ++ drop n list) z ∙ ap (λ ws. ws ++ drop (length ws) list) (sym words) in
        record {
          small = m.small;
          pages =
              let some = course_pages (model_of first.bytes first.galley) (first_folio (models_of (first ∷ rest))) first rest choice p.route.folios last p.route.course in
              omega (arith, ap (λ (s : Sums). s.pages) adds', pages);
          lent = m.lent;
          counts = λ c cs e.
              let same = read_same (sym p.lent.room.is ∙ e) in
              rw (← same) (
                choice,
                p.route.best,
                omega (arith, ap (λ (s : Sums). s.pages) adds', pages, p.route.pages),
                omega (arith, ap (λ (s : Sums). s.x) adds', x, p.route.x),
                omega (arith, ap (λ (s : Sums). s.white) adds', white, p.route.white),
              );
          listed = λ c cs e.
              let same = read_same (sym p.lent.room.is ∙ e) in rw (← same) listed;
        }
