-- The second demand's last sentence: the engine's own pagination is such a list, with those numbers. What `make`, `make_after` and
-- `make_book` write with an answer that is no refusal is the page list of a pagination under the published model, of the galley that the
-- bytes say or of each chapter where it opens, and the numbers that they answer are its own.
use Rattle.std.specs.Prelude.{ℕ, suc, ◌+◌, ◌-◌, ◌*◌, ◌≤◌, ◌<◌, ◌≡◌, refl, Bool, true, List, [], ◌∷◌, length, take, drop, ltb, Ok}
use Rattle.std.proofs.Common.{arith, sym, ◌∙◌, ap, subst}
use Rattle.model.specs.Gather.{pick}
use Rattle.model.specs.Galley as model
use Rattle.model.specs.Leaf.{leaf}
use Rattle.model.specs.Answers.{numbers_of, accepted, words_of, marked, Answer, counted_as, refused}
use Rattle.model.specs.Pagination.{Map, Pagination, list_on, x_on, turns_on, white_over}
use Rattle.model.specs.Book.{open_on, first_folio}
use Rattle.theorems.specs.published.Theorem.{words_published, words_counts}
use Rattle.galley.specs.declared.Galley.{Galley}
use Rattle.galley.specs.Whole.{galley_of}
use Rattle.galley.specs.Model.{model_of}
use Rattle.rules.specs.laws.Sane.{reads_sane}
use Rattle.marking.specs.Mark.{mark_of}
use Rattle.needs.specs.Needs.{work_needed, list_needed}
use Rattle.chapters.specs.Book.{Chapter, read, book_of, models_of}
use Rattle.chapters.specs.laws.Chapters.{chapter_at}
use Rattle.course.specs.Weighed.{all_weighed}
use Rattle.book.specs.declared.BookMade.{BookMade}
use Rattle.book.specs.Make.{told_of}
use Rattle.promises.specs.SecondDemand.{mark_is}
use Rattle.promises.specs.Marks.{AllAccepted, book_marked, joined}

-- The words are the page list of a pagination of the galley, and the answer is its page count, X, Y, turns and white.
pub record Own (g : model.Galley) (words : List ℕ) (answer : Answer) : Type 0 where
  pub pages : ℕ
  pub map : Map
  pub paginates : Pagination g pages map
  pub list : words_of (list_on g map pages 1) ≡ words
  pub numbers : answer
      ≡ counted_as pages (x_on g map) (leaf g.spec.sides pages - leaf g.spec.sides 1) (turns_on g pages map) (white_over g pages map)

-- What marking accepts is such a list, with the numbers that it reports.
marked_own : (g : model.Galley) → model.Sane g → (words : List ℕ) → accepted (marked g words) ≡ true → Own g words (marked g words)
marked_own g sane words h =
    let (p, P, m, e) = (words_published g sane words).0 h in
    record { pages = p; map = P; paginates = m; list = e; numbers = ap (marked g) (sym e) ∙ words_counts g sane m }

-- ---- of a galley
-- The bytes say a galley, and the first p pages of the page list are the list of its pagination with the numbers of the answer.
pub record OwnPages (bytes list : List ℕ) (answer : Answer) : Type 0 where
  pub galley : Galley
  pub says : galley_of bytes ≡ Ok galley
  pub own : Own (model_of bytes galley) (take (model.streams (model_of bytes galley) * (numbers_of answer).pages) list) answer

-- Where marking accepts these pages with the same numbers, it is so.
pub same_own : (bytes list : List ℕ) (answer : Answer) (g : Galley) → galley_of bytes ≡ Ok g → accepted answer ≡ true
    → mark_of bytes (take (model.streams (model_of bytes g) * (numbers_of answer).pages) list) ≡ answer → OwnPages bytes list answer
same_own bytes list answer g e h same =
    let words : List ℕ = take (model.streams (model_of bytes g) * (numbers_of answer).pages) list in
    let is : marked (model_of bytes g) words ≡ answer = sym (mark_is bytes words g e) ∙ same in
    record {
      galley = g;
      says = e;
      own = subst (Own (model_of bytes g) words) is (marked_own (model_of bytes g) (reads_sane bytes g e) words (ap accepted is ∙ h));
    }

-- What is no refusal was sought in memory that is long enough.
pub unrefused : (g : Galley) (work list : ℕ) (a : Answer)
    → accepted (pick (ltb work (work_needed g)) (refused 9 (work_needed g)) (pick (ltb list (list_needed g)) (refused 10 (list_needed g)) a)) ≡ true
    → (work_needed g ≤ work) × (list_needed g ≤ list) × (accepted a ≡ true)
unrefused g work list a = go (ltb work (work_needed g)) (ltb list (list_needed g)) refl refl
  where
    go : (b c : Bool) → ltb work (work_needed g) ≡ b → ltb list (list_needed g) ≡ c
        → accepted (pick b (refused 9 (work_needed g)) (pick c (refused 10 (list_needed g)) a)) ≡ true
        → (work_needed g ≤ work) × (list_needed g ≤ list) × (accepted a ≡ true)
    go b c x y h = grind arith

-- ---- of a book
-- Each chapter's list is that of a pagination with the numbers that its marking reports, the first opened on folio f, each later one on the
-- folio after the one before.
unfoldable pub AllOwn : ℕ → List model.Galley → List (List ℕ) → Type 0
AllOwn f [] [] = Unit {0}
AllOwn f [] (ws ∷ rest) = ⊥
AllOwn f (g ∷ gs) [] = ⊥
AllOwn f (g ∷ gs) (ws ∷ rest) =
    Own (open_on f g) ws (marked (open_on f g) ws) × AllOwn (f + (numbers_of (marked (open_on f g) ws)).pages) gs rest

-- The bytes say chapters, the page list begins with a list for each, which are those of paginations, and the answer is what their numbers
-- come to for the book.
pub record OwnChapters (bytes lengths list : List ℕ) (answer : BookMade) : Type 0 where
  pub chapters : List Chapter
  pub says : book_of bytes lengths ≡ read chapters
  pub lists : List (List ℕ)
  pub own : AllOwn (first_folio (models_of chapters)) (models_of chapters) lists
  pub words : take (length (joined lists)) list ≡ joined lists
  pub numbers : answer ≡ told_of (book_marked (models_of chapters) lists) (all_weighed chapters)

-- Every chapter of a book reads.
abbrev AllRead : List Chapter → Type 0
AllRead [] = Unit {0}
AllRead (c ∷ cs) = (galley_of c.bytes ≡ Ok c.galley) × AllRead cs

each_read : (cs : List Chapter)
    → ((k : ℕ) → k < length cs → (c : Chapter) (ds : List Chapter) → drop k cs ≡ c ∷ ds → galley_of c.bytes ≡ Ok c.galley)
    → AllRead cs
each_read [] h = tt
each_read (c ∷ cs) h = (h 0 (omega arith) c cs refl, each_read cs (λ k low d ds e. h (suc k) (omega arith) d ds e))

pub book_reads : (bytes lengths : List ℕ) (cs : List Chapter) → book_of bytes lengths ≡ read cs → AllRead cs
book_reads bytes lengths [] e = tt
book_reads bytes lengths (first ∷ rest) e =
    each_read (first ∷ rest) (λ k low c ds d.
    let at = chapter_at bytes lengths first rest e k low in
    subst (λ (c : Chapter). galley_of c.bytes ≡ Ok c.galley) (ap head (sym at.there ∙ d)) at.reads)
  where
    head : List Chapter → Chapter
    head [] = first
    head (c ∷ cs) = c

-- Where a chapter opens is nothing to its blocks.
open_sane : (f : ℕ) (g : model.Galley) → model.Sane g → model.Sane (open_on f g)
unfolding open_on
open_sane f g sane =
    record {
      lined = sane.lined;
      cites = λ s k some b.
          let c = sane.cites s k some (record { stream = b.stream; first = b.first; last = b.last }) in
          record { stream = c.stream; first = c.first; last = c.last };
      grows = λ s k some b d.
          sane.grows s k some (record { stream = b.stream; first = b.first; last = b.last })
          (record { stream = d.stream; first = d.first; last = d.last });
    }

pub accepted_own : (f : ℕ) (cs : List Chapter) (lists : List (List ℕ)) → AllRead cs → AllAccepted f (models_of cs) lists → AllOwn f (models_of cs) lists
unfolding AllAccepted AllOwn models_of
accepted_own f [] [] all a = tt
accepted_own f [] (ws ∷ rest) all a = a
accepted_own f (c ∷ cs) [] all a = a
accepted_own f (c ∷ cs) (ws ∷ rest) all a = (
  marked_own (open_on f (model_of c.bytes c.galley))
      (open_sane f (model_of c.bytes c.galley) (reads_sane c.bytes c.galley all.0)) ws a.0,
  accepted_own (f + (numbers_of (marked (open_on f (model_of c.bytes c.galley)) ws)).pages) cs rest all.1 a.1,
)
