-- What making a book answers, in the definitions of the model alone: a choice that no choice of valid chapter lists beats in turns, and of
-- those with as few none in white, or 11, exactly where there is no choice.
use Rattle.std.specs.Prelude.{ℕ, ◌≤◌, ◌≡◌, true, List, []}
use Rattle.std.proofs.Common.{subst}
use mathlib.Core.List.Memᴰ
use Rattle.std.proofs.Math.Option.{Option, none, some}
use Rattle.model.specs.Galley.{Galley}
use Rattle.model.specs.Order.{then_by, by}
use Rattle.model.specs.Answers.{words_of, Answer, refused}
use Rattle.model.specs.Book.{first_folio, Choice, gathered, choices, book_turns, book_white, book_before, best_book, book_counts, book_made, book_words}
use Rattle.model.specs.laws.Lists.{◌∈◌}
use Rattle.model.proofs.laws.Best.{Found, nothing, found, first_of_found}
use Rattle.model.proofs.laws.Book.{book_preference}
use Rattle.theorems.specs.books.Through.{in_turn}

-- What the possible answers say of the choices.
pub data Binding (gs : List Galley) : Answer → List ℕ → Type 0 where
  no_choice : ((cs : Choice) → cs ∈ choices (first_folio gs) gs → ⊥) → Binding gs (refused 11 0) []
  best_choice : (cs : Choice) → cs ∈ choices (first_folio gs) gs
      → ((ds : Choice) → ds ∈ choices (first_folio gs) gs → book_turns (first_folio gs) gs cs ≤ book_turns (first_folio gs) gs ds)
      → ((ds : Choice) → ds ∈ choices (first_folio gs) gs → book_turns (first_folio gs) gs ds ≤ book_turns (first_folio gs) gs cs
      → book_white (first_folio gs) gs cs ≤ book_white (first_folio gs) gs ds)
      → Binding gs (book_counts (first_folio gs) gs cs) (gathered words_of cs)

-- A choice that comes before another has no more turns, and where it has as many no more white.
no_more : (f : ℕ) (gs : List Galley) (cs ds : Choice) → book_before f gs cs ds ≡ true
    → (book_turns f gs cs ≤ book_turns f gs ds) × (book_turns f gs ds ≤ book_turns f gs cs → book_white f gs cs ≤ book_white f gs ds)
unfolding book_before then_by by
no_more f gs cs ds h =
    let t = (in_turn (book_turns f gs cs) (book_turns f gs ds) (book_white f gs cs) (book_white f gs ds) _).0 h in (t.0, t.1)

-- Making a book answers one of them.
pub binding : (gs : List Galley) → Binding gs (book_made gs) (book_words gs)
unfolding book_made book_words best_book
binding gs =
    go _ (first_of_found (book_before (first_folio gs) gs) (book_preference (first_folio gs) gs) (choices (first_folio gs) gs))
  where
    go : (r : Option Choice)
        → Found (book_before (first_folio gs) gs) (book_preference (first_folio gs) gs) (choices (first_folio gs) gs) r
        → Binding gs (elim r [ none ↦ refused 11 0 | some cs ↦ book_counts (first_folio gs) gs cs ])
        (elim r [ none ↦ [] | some cs ↦ gathered words_of cs ])
    go none (nothing e) = no_choice (λ cs m. Memᴰ.not-nil (subst (λ l. cs ∈ l) e m))
    go (some cs) (found x) =
        best_choice cs x.among (λ ds m. (no_more (first_folio gs) gs cs ds (x.ahead ds m)).0)
        (λ ds m. (no_more (first_folio gs) gs cs ds (x.ahead ds m)).1)
