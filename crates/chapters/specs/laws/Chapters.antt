-- What is known of each chapter of a book that was read.
use Rattle.std.specs.Prelude.{ℕ, zero, suc, ◌+◌, ◌≤◌, ◌<◌, Bool, true, false, List, [], ◌∷◌, ◌≡◌, refl, length, get_or, take, drop, Err, Ok}
use Rattle.std.proofs.Common.{arith, sym, ◌∙◌, ap}
use Rattle.std.proofs.Math.Seq.{slice}
use Rattle.model.specs.Gather.{pick}
use Rattle.model.specs.declared.answer.Refusal.{Refusal}
use Rattle.galley.specs.declared.Galley.{Galley}
use Rattle.galley.specs.Whole.{galley_of, Reading}
use Rattle.needs.specs.Needs.{work_needed, list_needed}
use Rattle.chapters.specs.Book.{Chapter, read, refused, all_bytes, adds_up, later_from, first_of, chapters_of, book_of, largest, book_list, chapter_start, chapter_bytes}
use Rattle.chapters.specs.Steps.{Reads, Numbered}
use Rattle.chapters.specs.laws.Lengths.{adding}
use Rattle.chapters.specs.laws.Opening.{added, extent_within}
use Rattle.chapters.specs.laws.Later.{unread, before_read, AllLater, later_at}

-- Bytes that hold a galley are not refused.
pub unrefused : {A : Type 0} (bytes : List ℕ) (r : Refusal) → Reads bytes → galley_of bytes ≡ Err r → A
unrefused bytes r reads e = let z : ◌≡◌ {A = ℕ} 0 1 = ap kind (sym reads.1 ∙ e) in absurd (omega arith)
  where
    kind : Reading → ℕ
    kind (Ok g) = 0
    kind (Err r) = 1

-- The lengths of a book that was read add up.
pub book_adds : (bytes lengths : List ℕ) (cs : List Chapter) → book_of bytes lengths ≡ read cs → adds_up bytes lengths ≡ true
unfolding book_of
book_adds bytes lengths cs = go (adds_up bytes lengths)
  where
    go : (b : Bool) → pick b (chapters_of bytes lengths) (refused 28 0) ≡ read cs → b ≡ true
    go true h = refl
    go false h = unread h

pub no_chapter_lem : {A : Type 0} {c : Chapter} {ds : List Chapter} → [] ≡ c ∷ ds → A
no_chapter_lem {A} {c} {ds} e = let z : ◌≡◌ {A = ℕ} 0 (suc (length ds)) = ap length e in absurd (omega arith)

-- The largest of some chapters needs no less than one of them.
pub largest_at : (cs : List Chapter) (k : ℕ) (c : Chapter) (ds : List Chapter) → drop k cs ≡ c ∷ ds → work_needed c.galley ≤ largest cs
unfolding largest
largest_at cs zero c ds e = rw e (omega arith)
largest_at [] (suc k) c ds e = no_chapter_lem e
largest_at (x ∷ xs) (suc k) c ds e = let h = largest_at xs k c ds e in omega arith

-- The words of the page list are those of the first chapters and of the others.
pub list_split : (cs : List Chapter) (k : ℕ) → book_list cs ≡ book_list (take k cs) + book_list (drop k cs)
unfolding book_list
list_split cs zero = omega arith
list_split [] (suc k) = omega arith
list_split (c ∷ cs) (suc k) = let h = list_split cs k in omega arith

-- A book that was read: its first chapter, of n bytes, and those after it.
record Opens (bytes : List ℕ) (n : ℕ) (ns : List ℕ) (first : Chapter) (rest : List Chapter) : Type 0 where
  is : first.bytes ≡ slice 0 n bytes
  reads : galley_of (slice 0 n bytes) ≡ Ok first.galley
  others : AllLater bytes first.galley.spec n ns rest

first_opens : (bytes : List ℕ) (n : ℕ) (ns : List ℕ) (first : Chapter) (rest : List Chapter)
    → first_of bytes n ns (galley_of (slice 0 n bytes)) ≡ read (first ∷ rest) → Opens bytes n ns first rest
unfolding first_of
first_opens bytes n ns first rest = go (galley_of (slice 0 n bytes)) refl
  where
    head : List Chapter → Chapter
    head [] = first
    head (c ∷ cs) = c

    go : (r : Reading) → galley_of (slice 0 n bytes) ≡ r → first_of bytes n ns r ≡ read (first ∷ rest) → Opens bytes n ns first rest
    go (Err r) e h = unread h
    go (Ok g) e h =
        let c : Chapter = record { bytes = slice 0 n bytes; galley = g } in
        let t = before_read c (later_from bytes g.spec 1 n ns) (first ∷ rest) h in
        let same : first ≡ c = ap head t.2 in
        let others : rest ≡ t.0 = ap (drop 1) t.2 in
        rw (same, others) (record { is = refl; reads = e; others = later_at bytes g.spec 1 n ns t.0 t.1 })

-- What is known of chapter k, from 0, of a book that was read.
pub record ChapterAt (bytes lengths : List ℕ) (first : Chapter) (rest : List Chapter) (k : ℕ) : Type 0 where
  pub galley : Galley
  pub reads : galley_of (chapter_bytes bytes lengths k) ≡ Ok galley
  pub there : drop k (first ∷ rest) ≡ record { bytes = chapter_bytes bytes lengths k; galley = galley } ∷ drop (suc k) (first ∷ rest)
  pub within : chapter_start lengths k + get_or lengths k 0 ≤ length bytes
  pub numbered : Numbered lengths (k + 1)
  pub spec : galley.spec ≡ first.galley.spec
  pub folio : 1 ≤ k → galley.folio ≡ 1
  pub work : work_needed galley ≤ largest (first ∷ rest)
  pub list : book_list (take k (first ∷ rest)) + list_needed galley ≤ book_list (first ∷ rest)

-- Where chapter k stands, and what it is.
record Stands (bytes lengths : List ℕ) (first : Chapter) (rest : List Chapter) (k : ℕ) : Type 0 where
  chapter : Chapter
  there : drop k (first ∷ rest) ≡ chapter ∷ drop (suc k) (first ∷ rest)
  is : chapter.bytes ≡ chapter_bytes bytes lengths k
  reads : galley_of (chapter_bytes bytes lengths k) ≡ Ok chapter.galley
  spec : chapter.galley.spec ≡ first.galley.spec
  folio : 1 ≤ k → chapter.galley.folio ≡ 1

opens_stands : (bytes : List ℕ) (n : ℕ) (ns : List ℕ) (first : Chapter) (rest : List Chapter) → Opens bytes n ns first rest
    → (k : ℕ) → k < suc (length ns) → Stands bytes (n ∷ ns) first rest k
unfolding all_bytes
opens_stands bytes n ns first rest o zero h =
    let z : 0 + n ≡ n = omega arith in
    record {
      chapter = first;
      there = refl;
      is = o.is ∙ ap (λ m. slice 0 m bytes) (sym z);
      reads = ap (λ m. galley_of (slice 0 m bytes)) z ∙ o.reads;
      spec = refl;
      folio = λ l. absurd (omega arith);
    }
opens_stands bytes n ns first rest o (suc j) h =
    let l = o.others.each j (omega arith) in
    record {
      chapter = l.chapter;
      there = l.there;
      is = l.known.is;
      reads = l.known.reads;
      spec = l.known.spec;
      folio = λ k. l.known.folio;
    }

book_opens : (bytes : List ℕ) (n : ℕ) (ns : List ℕ) (first : Chapter) (rest : List Chapter) → book_of bytes (n ∷ ns) ≡ read (first ∷ rest)
    → Opens bytes n ns first rest
unfolding chapters_of
book_opens bytes n ns first rest e =
    first_opens bytes n ns first rest (sym (added bytes (n ∷ ns) (book_adds bytes (n ∷ ns) (first ∷ rest) e)) ∙ e)

-- A book has as many chapters as lengths, one at least.
pub chapters_many : (bytes lengths : List ℕ) (first : Chapter) (rest : List Chapter) → book_of bytes lengths ≡ read (first ∷ rest)
    → length lengths ≡ suc (length rest)
chapters_many bytes [] first rest e = absurd (omega (arith, (adding bytes [] (book_adds bytes [] (first ∷ rest) e)).some))
chapters_many bytes (n ∷ ns) first rest e = ap suc (sym (book_opens bytes n ns first rest e).others.many)

book_stands : (bytes lengths : List ℕ) (first : Chapter) (rest : List Chapter) → book_of bytes lengths ≡ read (first ∷ rest)
    → (k : ℕ) → k < length lengths → Stands bytes lengths first rest k
book_stands bytes [] first rest e k h = absurd (omega arith)
book_stands bytes (n ∷ ns) first rest e k h = opens_stands bytes n ns first rest (book_opens bytes n ns first rest e) k h

-- Every chapter of a book that was read.
pub chapter_at : (bytes lengths : List ℕ) (first : Chapter) (rest : List Chapter) → book_of bytes lengths ≡ read (first ∷ rest)
    → (k : ℕ) → k < suc (length rest) → ChapterAt bytes lengths first rest k
unfolding book_list
chapter_at bytes lengths first rest e k h =
    let adds = adding bytes lengths (book_adds bytes lengths (first ∷ rest) e) in
    let many = chapters_many bytes lengths first rest e in
    let s = book_stands bytes lengths first rest e k (omega arith) in
    let split = list_split (first ∷ rest) k ∙ ap (λ l. book_list (take k (first ∷ rest)) + book_list l) s.there in
    record {
      galley = s.chapter.galley;
      reads = s.reads;
      there = s.there ∙ ap (λ b. record { bytes = b; galley = s.chapter.galley } ∷ drop (suc k) (first ∷ rest)) s.is;
      within = extent_within bytes lengths adds k (omega arith);
      numbered = record { within = omega arith; few = adds.few };
      spec = s.spec;
      folio = s.folio;
      work = largest_at (first ∷ rest) k s.chapter (drop (suc k) (first ∷ rest)) s.there;
      list = omega arith;
    }
