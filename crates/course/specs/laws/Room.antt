-- A book whose chapters are made one after another: what each turn may rest on.
use Rattle.std.specs.Prelude.{ℕ, ◌+◌, ◌≤◌, ◌<◌, ◌≡◌, refl, List, ◌∷◌, length, get_or}
use Rattle.std.proofs.Common.{arith, ap, subst}
use Rattle.chapters.specs.declared.Book.{Book}
use Rattle.chapters.specs.Book.{Chapter, chapters_in, book_of, chapter_bytes}
use Rattle.chapters.specs.laws.Later.{chapters_read}
use Rattle.chapters.specs.laws.Chapters.{ChapterAt, chapter_at, chapters_many}
use Rattle.course.specs.declared.Sums.{Sums}
use Rattle.course.specs.Course.{no_sums, NextChapter, NextMade, CourseRoom, CourseMade, Making}
use Rattle.course.specs.laws.Making.{making_first, making_chapter, making_next, making_done}

module _ {bytes lengths : List ℕ} {book : Book} {folios work list : List ℕ} (p : CourseRoom bytes lengths book folios work list) where
  abbrev chapters : List Chapter
  chapters = p.first ∷ p.rest

  is_read : chapters_in (book_of bytes lengths) ≡ chapters
  is_read = chapters_read p.is

  pub course_first : Making (chapters_in (book_of bytes lengths)) folios list 0 no_sums list
  course_first = rw is_read (making_first chapters folios list p.leads p.room)

  module _ {k : ℕ} (more : k < book.chapters) where
    -- The chapter that is next.
    pub course_at : ChapterAt bytes lengths p.first p.rest k
    course_at = chapter_at bytes lengths p.first p.rest p.is k (omega (arith, p.many))

    -- Its folio and the next are there.
    pub course_opens : k + 1 < length folios
    course_opens = omega (arith, p.many, p.opens)

    module _ {sums : Sums} {list' : List ℕ} (m : Making (chapters_in (book_of bytes lengths)) folios list k sums list') where
      going : Making chapters folios list k sums list'
      going = subst (λ cs. Making cs folios list k sums list') is_read m

      pub course_chapter : (work' : List ℕ) → length work' ≡ length work
          → NextChapter (chapter_bytes bytes lengths k) (get_or folios k 0) (get_or folios (k + 1) 0) sums work' list'
      course_chapter work' lent = making_chapter going course_at work' (omega (arith, p.enough))

      pub course_next : {sums' : Sums} {work' work'' list'' : List ℕ}
          → NextMade (chapter_bytes bytes lengths k) (get_or folios k 0) (get_or folios (k + 1) 0) sums work' list' sums' work'' list''
          → Making (chapters_in (book_of bytes lengths)) folios list (k + 1) sums' list''
      course_next made = rw is_read (making_next going course_at made)

  pub course_done : {k : ℕ} {sums : Sums} {work' list' : List ℕ} → Making (chapters_in (book_of bytes lengths)) folios list k sums list'
      → book.chapters ≤ k → length work' ≡ length work → CourseMade bytes lengths folios work list sums work' list'
  course_done {k} m done lent =
      let in_all = ap length is_read in
      let many = chapters_many bytes lengths p.first p.rest p.is in
      let few = (chapter_at bytes lengths p.first p.rest p.is 0 (omega arith)).numbered.few in
      making_done (chapters_in (book_of bytes lengths)) refl m (omega (arith, p.many)) (omega (arith, m.within)) lent
