-- The third demand for books: no choice of a list for each chapter can beat the engine (document 02, S-9). For every book that reads
-- without refusal, and a work area and page list of at least the lengths laid down, whatever they hold. `Bound` is the contract of
-- `make_book`; marking is of each chapter's galley as the page model has it, opened on its folio.
use Rattle.std.specs.Prelude.{ℕ, ◌≤◌, ◌≡◌, refl, List, ◌++◌, map, length}
use Rattle.std.proofs.Common.{arith, sym, ◌∙◌, take_at, le-ltb}
use Rattle.std.proofs.Math.Path.{ap, subst}
use Rattle.std.proofs.Math.Logic.{inl, inr}
use Rattle.std.proofs.Math.ListN.{take, drop}
use Rattle.model.specs.Galley.{Galley}
use Rattle.model.specs.Answers.{numbers_of, words_of, Answer}
use Rattle.model.specs.Book.{first_folio, Choice, gathered, choices, book_turns, book_white, book_counts, book_made, book_words}
use Rattle.model.specs.laws.Lists.{◌∈◌}
use Rattle.theorems.specs.books.Binding.{Binding, no_choice, best_choice, binding}
use Rattle.chapters.specs.Book.{Chapter, read, book_of, models_of, book_work, book_list}
use Rattle.course.specs.Weighed.{all_weighed}
use Rattle.book.specs.declared.BookMade.{BookMade}
use Rattle.book.specs.Make.{told_of, book_read, list_read, Bound}
use Rattle.promises.specs.Marks.{AllAccepted, book_marked, joined, choice_accepted, accepted_choice, choice_marked, choice_joined}
use Rattle.promises.specs.Books.{BookDemand}

module _ (gs : List Galley) (weighed : ℕ) (list : List ℕ) where
  -- What holds of the turns and the white of all choices holds of those of all lists that marking accepts.
  over_lists : (P : ℕ → ℕ → Type 0)
      → ((ds : Choice) → ds ∈ choices (first_folio gs) gs → P (book_turns (first_folio gs) gs ds) (book_white (first_folio gs) gs ds))
      → (lists : List (List ℕ)) → AllAccepted (first_folio gs) gs lists
      → P (numbers_of (book_marked gs lists)).turns (numbers_of (book_marked gs lists)).white
  unfolding book_counts
  over_lists P each lists a =
      let (ds, m, e) = accepted_choice (first_folio gs) gs lists a in
      subst (λ ls. P (numbers_of (book_marked gs ls)).turns (numbers_of (book_marked gs ls)).white) e
      (subst (λ (n : Answer). P (numbers_of n).turns (numbers_of n).white) (sym (choice_marked gs ds m)) (each ds m))

  from_binding : {a : Answer} {ws : List ℕ} → Binding gs a ws → BookDemand gs weighed (told_of a weighed) (ws ++ drop (length ws) list)
  unfolding book_counts
  from_binding (no_choice none) =
      record {
        outcome = inl refl;
        same = λ z. absurd (omega arith);
        least = λ z. absurd (omega arith);
        whitest = λ z. absurd (omega arith);
        none = (λ _ lists a. let (ds, m, e) = accepted_choice (first_folio gs) gs lists a in none ds m, λ _. refl);
      }
  from_binding (best_choice cs m fewest whitest) =
      record {
        outcome = inr refl;
        same = λ z.
            (map words_of cs, choice_accepted (first_folio gs) gs cs m, ap (λ a. told_of a weighed) (sym (choice_marked gs cs m)), first);
        least = λ z. over_lists (λ t w. book_turns (first_folio gs) gs cs ≤ t) fewest;
        whitest = λ z. over_lists (λ t w. t ≤ book_turns (first_folio gs) gs cs → book_white (first_folio gs) gs cs ≤ w) whitest;
        none = (λ z. absurd (omega arith), λ h. absurd (h (map words_of cs) (choice_accepted (first_folio gs) gs cs m)));
      }
    where
      first : take (length (joined (map words_of cs))) (gathered words_of cs ++ drop (length (gathered words_of cs)) list) ≡ joined (map words_of cs)
      first =
          let e = choice_joined cs in
          rw e (take_at (gathered words_of cs) (drop (length (gathered words_of cs)) list) (length (gathered words_of cs)) refl)

-- The demand holds of whatever the contract of `make_book` allows.
pub book_demand : {bytes lengths work list : List ℕ} {made : BookMade} {work' list' : List ℕ} → Bound bytes lengths work list made work' list'
    → (cs : List Chapter) → book_of bytes lengths ≡ read cs → book_work cs ≤ length work → book_list cs ≤ length list
    → BookDemand (models_of cs) (all_weighed cs) made list'
unfolding book_read list_read
book_demand {bytes} {lengths} {work} {list} {made} {work'} {list'} b cs is enough room =
    let short = le-ltb (length work) (book_work cs) enough in
    let thin = le-ltb (length list) (book_list cs) room in
    let answers : made ≡ told_of (book_made (models_of cs)) (all_weighed cs) = b.answers ∙ rw is (simp (short, thin)) in
    let lists : list' ≡ book_words (models_of cs) ++ drop (length (book_words (models_of cs))) list = b.listed ∙ rw is (simp (short, thin)) in
    rw (answers, lists) (from_binding (models_of cs) (all_weighed cs) list (binding (models_of cs)))
