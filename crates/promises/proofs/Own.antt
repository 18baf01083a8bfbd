-- The second demand's last sentence: the engine's own pagination is such a list, with those numbers. What `make`, `make_after` and
-- `make_book` write with an answer that is no refusal is the page list of a pagination under the published model, of the galley that the
-- bytes say or of each chapter where it opens, and the numbers that they answer are its own.
use Rattle.std.specs.Prelude.{ℕ, ◌≤◌, ◌≡◌, refl, Bool, true, false, List, length, ltb, Err, Ok}
use Rattle.std.proofs.Common.{arith, sym, ◌∙◌, ap, inl, inr, ltb-false}
use Rattle.std.proofs.Math.Option.{none}
use Rattle.model.specs.Gather.{pick}
use Rattle.model.specs.Galley as model
use Rattle.model.specs.Answers as answers
use Rattle.model.specs.Answers.{accepted, Answer}
use Rattle.model.specs.Best.{made}
use Rattle.model.specs.Opening.{opening_turned, made_after}
use Rattle.model.specs.Book.{first_folio, book_made}
use Rattle.theorems.specs.pages.LeastAfter.{MakingAfter, turned_away, no_list, best_list, making_after}
use Rattle.galley.specs.Whole.{galley_of, Reading}
use Rattle.galley.specs.Model.{model_of}
use Rattle.chapters.specs.Book.{Chapter, Outcome, read, refused, book_of, models_of, book_work, book_list}
use Rattle.making.specs.Make.{make_read, make_of, Made}
use Rattle.making.specs.After.{make_after_read, make_after_of, MadeAfter}
use Rattle.course.specs.Weighed.{all_weighed}
use Rattle.book.specs.declared.BookMade.{BookMade}
use Rattle.book.specs.Make.{told_of, book_read, Bound}
use Rattle.promises.specs.ThirdDemandAfter.{third_demand_after}
use Rattle.promises.specs.ThirdDemand.{third_demand}
use Rattle.promises.proofs.Books.{book_demand}
use Rattle.promises.specs.BookAnswers.{Fine, book_fine, numbers_in}
use Rattle.promises.specs.Own.{OwnPages, OwnChapters, same_own, unrefused, book_reads, accepted_own}

-- What `make` writes is a pagination, with the numbers that it answers.
pub make_own : {bytes work list : List ℕ} {answer : Answer} {count : ℕ} {work' list' : List ℕ}
    → Made bytes work list answer count work' list' → accepted answer ≡ true → OwnPages bytes list' answer
unfolding make_of make_read
make_own {bytes} {work} {list} {answer} {count} {work'} {list'} m h = go (galley_of bytes) refl (ap accepted (sym m.answers) ∙ h)
  where
    go : (r : Reading) → galley_of bytes ≡ r → accepted (make_read bytes (length work) (length list) r) ≡ true → OwnPages bytes list' answer
    go (Err r) e k = absurd cc
    go (Ok g) e k =
        let (enough, room, taken) = unrefused g (length work) (length list) (made (model_of bytes g)) k in
        same_own bytes list' answer g e h ((third_demand m g e enough room).same h)

-- An opening after which a list was found stands.
stood : (g : model.Galley) (opening : List ℕ) {a : Answer} {ws : List ℕ} → MakingAfter g opening a ws → accepted a ≡ true
    → opening_turned g opening ≡ none
stood g opening (turned_away {a} t (at, inl e)) h = absurd cc
stood g opening (turned_away {a} t (at, inr e)) h = absurd cc
stood g opening (no_list s empty) h = s
stood g opening (best_list rest s m long best whiter) h = s

-- So is what `make_after` writes, the opening's pages included.
pub after_own : {bytes opening work list : List ℕ} {answer : Answer} {count : ℕ} {work' list' : List ℕ}
    → MadeAfter bytes opening work list answer count work' list' → accepted answer ≡ true → OwnPages bytes list' answer
unfolding make_after_of make_after_read
after_own {bytes} {opening} {work} {list} {answer} {count} {work'} {list'} m h =
    go (galley_of bytes) refl (ap accepted (sym m.answers) ∙ h)
  where
    go : (r : Reading) → galley_of bytes ≡ r → accepted (make_after_read bytes opening (length work) (length list) r) ≡ true
        → OwnPages bytes list' answer
    go (Err r) e k = absurd cc
    go (Ok g) e k =
        let (enough, room, taken) = unrefused g (length work) (length list) (made_after (model_of bytes g) opening) k in
        let stands = stood (model_of bytes g) opening (making_after (model_of bytes g) opening) taken in
        same_own bytes list' answer g e h ((third_demand_after m g e enough room stands).same h)

-- And so is what `make_book` writes, chapter by chapter.
pub book_own : {bytes lengths work list : List ℕ} {made : BookMade} {work' list' : List ℕ} → Bound bytes lengths work list made work' list'
    → (numbers_in made).number ≡ 0 → OwnChapters bytes lengths list' made
unfolding book_read
book_own {bytes} {lengths} {work} {list} {made} {work'} {list'} b h =
    go (book_of bytes lengths) refl (book_fine bytes lengths) (ap (λ m. (numbers_in m).number) (sym b.answers) ∙ h)
  where
    told : List Chapter → Bool → Bool → BookMade
    told cs x y =
        pick x (told_of (answers.refused 9 (book_work cs)) 0) (pick y (told_of (answers.refused 10 (book_list cs)) 0) (told_of (book_made (models_of cs)) (all_weighed cs)))

    enough : (cs : List Chapter) (x y : Bool) → ltb (length work) (book_work cs) ≡ x → ltb (length list) (book_list cs) ≡ y
        → (numbers_in (told cs x y)).number ≡ 0 → (book_work cs ≤ length work) × (book_list cs ≤ length list)
    enough cs true y i j k = absurd (omega arith)
    enough cs false true i j k = absurd (omega arith)
    enough cs false false i j k = (ltb-false (length work) (book_work cs) i, ltb-false (length list) (book_list cs) j)

    away : (n : ℕ) → n ≡ 0 → Fine (refused n 0) → ⊥
    away n e (inl f) = omega arith
    away n e (inr f) = omega arith

    go : (o : Outcome) → book_of bytes lengths ≡ o → Fine o → (numbers_in (book_read (length work) (length list) o)).number ≡ 0
        → OwnChapters bytes lengths list' made
    go (refused n at) e fine k = absurd (away n k fine)
    go (read cs) e fine k =
        let (long, room) = enough cs (ltb (length work) (book_work cs)) (ltb (length list) (book_list cs)) refl refl k in
        let (lists, all, is, words) = (book_demand b cs e long room).same h in
        record {
          chapters = cs;
          says = e;
          lists = lists;
          own = accepted_own (first_folio (models_of cs)) cs lists (book_reads bytes lengths cs e) all;
          words = words;
          numbers = is;
        }
