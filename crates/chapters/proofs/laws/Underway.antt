-- Reading a book under way: each chapter that is taken, and each that is turned away, leaves what the whole reading gives.
use Prim.Native.Nat.{ℕ, suc, ◌+◌, ◌≤◌, ◌<◌, max}
use native.Mathlib.Omega.{arith}
use Rattle.std.specs.Prelude.{Bool, true, false, List, [], ◌∷◌, ◌≡◌, refl, length, get_or, Option, None, Some, Ok, Err}
use Rattle.std.proofs.Math.Path.{sym, ap}
use Rattle.std.proofs.Common.{◌∙◌, drop_of_length-le}
use Rattle.std.proofs.Math.ListN.{drop}
use Rattle.std.proofs.Math.Seq.{slice, drop-cons}
use Rattle.model.specs.Gather.{pick}
use Rattle.galley.specs.declared.Spec.{Spec}
use Rattle.galley.specs.declared.Galley.{Galley}
use Rattle.galley.specs.Whole.{galley_of}
use Rattle.needs.specs.laws.Needs.{read_few, list_small}
use Rattle.chapters.specs.declared.Book.{Book}
use Rattle.model.specs.declared.answer.Refusal.{Refusal}
use Rattle.chapters.specs.Book.{Outcome, read, refused, all_bytes, alike, has_folio, before, later, later_from, first_of, chapters_of, BookReading, reading_of, largest, book_list}
use Rattle.chapters.specs.Steps.{Opened, Roomy, unfit_after, with_chapter, summed, Underway}
use Rattle.chapters.specs.laws.Lengths.{Adding, adding, left_next}

-- No chapter was read yet.
abbrev pub no_chapters : Book
no_chapters = record { chapters = 0; largest = 0; list = 0 }

-- The answer of a book.
abbrev book_is : Book → BookReading
book_is book = Ok book

-- Equal numbers make equal answers.
answers_alike : {a b : Book} → a.chapters ≡ b.chapters → a.largest ≡ b.largest → a.list ≡ b.list → book_is a ≡ book_is b
answers_alike {a} {b} e f g =
    ap (λ (k : ℕ). book_is (record { chapters = k; largest = a.largest; list = a.list })) e
    ∙ ap (λ (k : ℕ). book_is (record { chapters = b.chapters; largest = k; list = a.list })) f
    ∙ ap (λ (k : ℕ). book_is (record { chapters = b.chapters; largest = b.largest; list = k })) g

-- A chapter counts as well before the rest is read as with it.
summed_before : (book : Book) (bytes : List ℕ) (g : Galley) (rest : Outcome)
    → summed book (before (record { bytes = bytes; galley = g }) rest) ≡ summed (with_chapter book g) rest
unfolding summed before largest book_list
summed_before book bytes g (read cs) = answers_alike (omega arith) (omega arith) (omega arith)
summed_before book bytes g (refused number place) = refl

-- Where nothing was read before, the answer is that of the chapters.
summed_none : (o : Outcome) → summed no_chapters o ≡ reading_of o
unfolding summed reading_of
summed_none (read cs) = answers_alike (omega arith) (omega arith) (omega arith)
summed_none (refused number place) = refl

-- The outcome of what makes a galley unfit, else another.
abbrev unfit_or : Option ℕ → ℕ → Outcome → Outcome
unfit_or None k o = o
unfit_or (Some number) k o = refused number k

-- What an unfit galley comes to, and a fit one.
later_unfit : (first : Spec) (k : ℕ) (bytes : List ℕ) (g : Galley) (rest : Outcome)
    → later first k bytes (Ok g) rest ≡ unfit_or (unfit_after first g) k (before (record { bytes = bytes; galley = g }) rest)
unfolding later unfit_after
later_unfit first k bytes g rest = go (alike first g.spec) (has_folio g)
  where
    go : (a b : Bool)
        → pick a (pick b (refused 30 k) (before (record { bytes = bytes; galley = g }) rest)) (refused 29 k)
        ≡ unfit_or (pick a (pick b (Some 30) None) (Some 29)) k (before (record { bytes = bytes; galley = g }) rest)
    go true true = refl
    go true false = refl
    go false b = refl

-- The first chapter is read.
pub underway_first : {bytes lengths : List ℕ} {g : Galley} → Opened bytes lengths g
    → Underway bytes lengths g.spec (with_chapter no_chapters g) (get_or lengths 0 0)
unfolding all_bytes chapters_of first_of
underway_first {bytes} {lengths} {g} opened = go lengths (adding bytes lengths opened.adds) opened.reads
  where
    go : (ls : List ℕ) → Adding bytes ls → galley_of (slice 0 (get_or ls 0 0) bytes) ≡ Ok g
        → Underway bytes ls g.spec (with_chapter no_chapters g) (get_or ls 0 0)
    go [] adds e = absurd (omega (arith, adds.some))
    go (n ∷ ns) adds e =
        let small = list_small g (read_few _ g e) in
        record {
          some = omega arith;
          within = omega arith;
          few = adds.few;
          left = adds.all;
          list = omega arith;
          goes =
              sym (summed_before no_chapters (slice 0 n bytes) g (later_from bytes g.spec 1 n ns))
              ∙ summed_none _ ∙ ap reading_of (sym (ap (first_of bytes n ns) e));
        }

module _ {bytes lengths : List ℕ} {first : Spec} {book : Book} {at : ℕ} (u : Underway bytes lengths first book at) where
  pub underway_roomy : book.chapters < length lengths → Roomy book
  underway_roomy h = record { chapters = omega (arith, u.few); list = u.list }

  -- The next chapter ends within the bytes.
  pub underway_within : book.chapters < length lengths → at + get_or lengths book.chapters 0 ≤ length bytes
  underway_within h = omega (arith, u.left, left_next lengths book.chapters h)

  -- All is read.
  pub underway_done : length lengths ≤ book.chapters → Ok book ≡ reading_of (chapters_of bytes lengths)
  unfolding summed later_from largest book_list
  underway_done h =
      answers_alike {b = record { chapters = book.chapters + 0; largest = max book.largest 0; list = book.list + 0 }} (omega arith) (omega arith) (omega arith)
      ∙ (rw (drop_of_length-le lengths h) at u.goes)

  module _ (n : ℕ) (is : n ≡ get_or lengths book.chapters 0) (h : book.chapters < length lengths) where
    abbrev chapter : List ℕ
    chapter = slice at (at + n) bytes

    abbrev rest : Outcome
    rest = later_from bytes first (book.chapters + 1) (at + n) (drop (book.chapters + 1) lengths)

    -- One chapter more decides, or the rest does.
    next : summed book (later first (book.chapters + 1) chapter (galley_of chapter) rest) ≡ reading_of (chapters_of bytes lengths)
    unfolding later_from
    next =
        let e : book.chapters + 1 ≡ suc book.chapters = omega arith in
        let d : drop book.chapters lengths ≡ n ∷ drop (book.chapters + 1) lengths =
        drop-cons lengths book.chapters 0 h ∙ ap (λ k. k ∷ drop (suc book.chapters) lengths) (sym is) ∙ ap (λ j. n ∷ drop j lengths) (sym e) in
        sym (ap (λ ls. summed book (later_from bytes first book.chapters at ls)) d) ∙ u.goes

    -- It is turned away by its own refusal.
    pub underway_refused : (r : Refusal) → galley_of chapter ≡ Err r
        → Err (record { number = r.number; place = book.chapters + 1 }) ≡ reading_of (chapters_of bytes lengths)
    unfolding later summed
    underway_refused r e = rw e at next

    module _ (g : Galley) (e : galley_of chapter ≡ Ok g) where
      abbrev taken : Outcome
      taken = before (record { bytes = chapter; galley = g }) rest

      judged : summed book (unfit_or (unfit_after first g) (book.chapters + 1) taken) ≡ reading_of (chapters_of bytes lengths)
      judged =
          sym (ap (summed book) (later_unfit first (book.chapters + 1) chapter g rest))
          ∙ sym (ap (λ r. summed book (later first (book.chapters + 1) chapter r rest)) e)
          ∙ next

      -- It is unlike the first, or has a folio.
      pub underway_unfit : (number : ℕ) → unfit_after first g ≡ Some number
          → Err (record { number = number; place = book.chapters + 1 }) ≡ reading_of (chapters_of bytes lengths)
      unfolding summed
      underway_unfit number same = rw same at judged

      -- It is taken.
      pub underway_next : unfit_after first g ≡ None → Underway bytes lengths first (with_chapter book g) (at + n)
      underway_next fit =
          let small = list_small g (read_few _ g e) in
          let l = left_next lengths book.chapters h in
          record {
            some = omega (arith, u.some);
            within = omega arith;
            few = u.few;
            left = omega (arith, u.left);
            list = omega (arith, u.list);
            goes = sym (summed_before book chapter g rest) ∙ (rw fit at judged);
          }
