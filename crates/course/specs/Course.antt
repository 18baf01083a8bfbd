-- The chapters made along the folios on which they open: each by the best list from its folio to the next, and what all come to
-- (document 02, S-9). The type `Sums` is that of src/lib.rt.
use Rattle.std.specs.Prelude.{ℕ, ◌+◌, ◌*◌, ◌≤◌, ◌<◌, ◌≡◌, List, [], ◌∷◌, ◌++◌, length, get_or, take, drop, Err, Ok}
use Rattle.std.proofs.Math.Option.{some}
use Rattle.model.specs.Galley as model
use Rattle.model.specs.Galley.{Place}
use Rattle.model.specs.Turns.{x_of}
use Rattle.model.specs.White.{white}
use Rattle.model.specs.Answers.{words_of, Answer}
use Rattle.model.specs.Book.{Choice}
use Rattle.theorems.specs.pages.Graph.{side}
use Rattle.theorems.specs.books.Closing.{best_closing}
use Rattle.galley.specs.declared.Galley.{Galley}
use Rattle.galley.specs.Whole.{galley_of}
use Rattle.galley.specs.Model.{sides_in, model_of}
use Rattle.needs.specs.Needs.{work_needed, list_needed}
use Rattle.chapters.specs.declared.Book.{Book}
use Rattle.chapters.specs.Book.{Chapter, read, chapters_in, book_of, largest, book_list}
use Rattle.closings.specs.Chapter.{on_folio}
use Rattle.course.specs.declared.Sums.{Sums}
use Rattle.course.specs.Chapter.{closing_list}

-- A galley opened on a folio, as the page model has it.
abbrev pub model_on : List ℕ → Galley → ℕ → model.Galley
model_on bytes g o = model_of bytes (on_folio o g)

-- The side on which its list closes that leads from there to the next folio.
abbrev pub side_to : Galley → ℕ → ℕ → ℕ
side_to g o next = side (sides_in (on_folio o g)) (o + next)

-- Its best list from there to the next folio.
abbrev pub list_to : List ℕ → Galley → ℕ → ℕ → List Place
list_to bytes g o next = closing_list bytes (on_folio o g) (side_to g o next)

-- There is one, between folios that occur.
pub record LeadsTo (bytes : List ℕ) (g : Galley) (o next : ℕ) : Type 0 where
  pub low : 1 ≤ o
  pub folio : o ≤ 2
  pub after : next ≤ 2
  pub best : best_closing (model_on bytes g o) (side_to g o next) ≡ some (list_to bytes g o next)

-- Nothing is made yet.
abbrev pub no_sums : Sums
no_sums = record { at = 0; pages = 0; x = 0; white = 0 }

-- What the chapters come to with one list more.
abbrev pub with_list : Sums → model.Galley → List Place → Sums
with_list sums g ps =
    record {
      at = sums.at + length (words_of ps);
      pages = sums.pages + length ps;
      x = sums.x + x_of g ps;
      white = sums.white + white g ps;
    }

-- The same by what marking the list answers, of which each page has so many words.
abbrev pub with_answer : Sums → ℕ → Answer → Sums
with_answer sums words (Ok c) =
    record { at = sums.at + words * c.pages; pages = sums.pages + c.pages; x = sums.x + c.x; white = sums.white + c.white }
with_answer sums words (Err r) = sums

-- It adds no more than a word holds.
pub record WithAnswer (sums : Sums) (words : ℕ) (answer : Answer) (sums' : Sums) : Type 0 where
  pub is : sums' ≡ with_answer sums words answer
  pub x : sums'.x ≤ sums.x + 4294967295
  pub white : sums'.white ≤ sums.white + 4294967295

-- A list of words with others written over it from number `at` on.
abbrev pub over : ℕ → List ℕ → List ℕ → List ℕ
over at ws list = (take at list ++ ws) ++ drop (at + length ws) list

-- The lists of the chapters, the first of which opens on the first of the folios.
unfoldable pub lists_of : List Chapter → List ℕ → Choice
lists_of [] fs = []
lists_of (c ∷ cs) fs = list_to c.bytes c.galley (get_or fs 0 0) (get_or fs 1 0) ∷ lists_of cs (drop 1 fs)

-- All lead so from folio to folio.
unfoldable pub AllLead : List Chapter → List ℕ → Type 0
AllLead [] fs = Unit {0}
AllLead (c ∷ cs) fs = LeadsTo c.bytes c.galley (get_or fs 0 0) (get_or fs 1 0) × AllLead cs (drop 1 fs)

-- What the chapters come to, with what was made before.
unfoldable pub sums_of : List Chapter → List ℕ → Sums → Sums
sums_of [] fs sums = sums
sums_of (c ∷ cs) fs sums =
    sums_of cs (drop 1 fs)
    (with_list sums (model_on c.bytes c.galley (get_or fs 0 0)) (list_to c.bytes c.galley (get_or fs 0 0) (get_or fs 1 0)))

-- The page list with the words of some lists written one after another, from number `at` on.
unfoldable pub written_of : Choice → ℕ → List ℕ → List ℕ
written_of [] at list = list
written_of (ps ∷ cs) at list = written_of cs (at + length (words_of ps)) (over at (words_of ps) list)

-- What up to 200 chapters come to; another can be added.
pub record Small (sums : Sums) : Type 0 where
  pub at : sums.at ≤ 2550000
  pub pages : sums.pages ≤ 850000
  pub x : sums.x ≤ 858993459000
  pub white : sums.white ≤ 858993459000

-- What k of them come to.
pub record SmallAfter (k : ℕ) (sums : Sums) : Type 0 where
  pub at : sums.at ≤ k * 12750
  pub pages : sums.pages ≤ k * 4250
  pub x : sums.x ≤ k * 4294967295
  pub white : sums.white ≤ k * 4294967295

-- The next chapter has a list from its folio to the one after it, and the lent memory is long enough.
pub record NextChapter (bytes : List ℕ) (o next : ℕ) (sums : Sums) (work list : List ℕ) : Type 0 where
  pub galley : Galley
  pub reads : galley_of bytes ≡ Ok galley
  pub leads : LeadsTo bytes galley o next
  pub enough : work_needed galley ≤ length work
  pub room : sums.at + list_needed galley ≤ length list
  pub small : Small sums

-- It is made: the sums are with its list, whose words stand where those before it end.
pub record NextMade (bytes : List ℕ) (o next : ℕ) (sums : Sums) (work list : List ℕ) (sums' : Sums) (work' list' : List ℕ) : Type 0 where
  pub adds : (g : Galley) → galley_of bytes ≡ Ok g → sums' ≡ with_list sums (model_on bytes g o) (list_to bytes g o next)
  pub listed : (g : Galley) → galley_of bytes ≡ Ok g → list' ≡ over sums.at (words_of (list_to bytes g o next)) list
  pub lent : length work' ≡ length work
  pub small : (k : ℕ) → SmallAfter k sums → SmallAfter (k + 1) sums'

-- A book that was read, folios between which its chapters lead, and lent memory that is long enough.
pub record CourseRoom (bytes lengths : List ℕ) (book : Book) (folios work list : List ℕ) : Type 0 where
  pub first : Chapter
  pub rest : List Chapter
  pub is : book_of bytes lengths ≡ read (first ∷ rest)
  pub many : book.chapters ≡ length (first ∷ rest)
  pub opens : length (first ∷ rest) < length folios
  pub leads : AllLead (first ∷ rest) folios
  pub enough : largest (first ∷ rest) ≤ length work
  pub room : book_list (first ∷ rest) ≤ length list

-- All chapters are made.
pub record CourseMade (bytes lengths folios work list : List ℕ) (sums : Sums) (work' list' : List ℕ) : Type 0 where
  pub adds : sums ≡ sums_of (chapters_in (book_of bytes lengths)) folios no_sums
  pub fits : sums.at ≤ length list
  pub listed : list' ≡ written_of (lists_of (chapters_in (book_of bytes lengths)) folios) 0 list
  pub lent : length work' ≡ length work
  pub small : Small sums

-- The first k chapters are made, and with the others all are.
pub record Making (cs : List Chapter) (folios list₀ : List ℕ) (k : ℕ) (sums : Sums) (list : List ℕ) : Type 0 where
  pub within : k ≤ length cs
  pub leads : AllLead (drop k cs) (drop k folios)
  pub room : sums.at + book_list (drop k cs) ≤ length list
  pub long : length list ≡ length list₀
  pub small : SmallAfter k sums
  pub goes : sums_of (drop k cs) (drop k folios) sums ≡ sums_of cs folios no_sums
  pub listed : written_of (lists_of (drop k cs) (drop k folios)) sums.at list ≡ written_of (lists_of cs folios) 0 list₀
