-- The folio after the best of all choices: where there is none the book has no choice, else the words followed back from it lead along the
-- best.
use Rattle.std.specs.Prelude.{ℕ, ◌≤◌, ◌≡◌, ◌⊎◌, length}
use Rattle.std.proofs.Common.{le_refl, sym, ◌∙◌, ap, inl, inr}
use native.Mathlib.Omega.{arith}
use Rattle.std.proofs.Math.Path.{refl, subst}
use mathlib.Core.List.{List, [], ◌∷◌, ◌++◌, reverse_aux}
use Rattle.std.proofs.Math.Option.{Option, none, some}
use Rattle.std.proofs.Math.Seq.{take-length}
use Rattle.model.specs.Galley as model
use Rattle.model.specs.Book.{first_folio, best_book}
use Rattle.theorems.specs.books.Routes as theorems
use Rattle.theorems.specs.books.Routes.{route, finish, ending}
use Rattle.theorems.specs.books.Best.{Binds, no_book, book, book_right}
use Rattle.theorems.specs.books.Engine.{ending_is, book_ordered}
use Rattle.galley.specs.Model.{model_of}
use Rattle.chapters.specs.Book.{Chapter, read, book_of, models_of}
use Rattle.chapters.specs.laws.Alike.{all_alike, some_folio_lem, models_many}
use Rattle.routes.specs.declared.Routes.{Routes}
use Rattle.routes.specs.Routes.{before, best_end, Routed}
use Rattle.book.specs.Bind.{OnRoute}
use Rattle.book.specs.laws.Ending.{folio_after, best_ending, ending_none}
use Rattle.book.specs.laws.Follow.{follow_route}

-- What is turned twice stands as it was.
turned_twice : (os xs ys : List ℕ) → reverse_aux (reverse_aux os xs) ys ≡ reverse_aux xs (os ++ ys)
turned_twice [] xs ys = refl
turned_twice (o ∷ os) xs ys = turned_twice os (o ∷ xs) ys

abbrev head_of : Chapter → model.Galley
head_of c = model_of c.bytes c.galley

first_opens : (bytes lengths : List ℕ) (c : Chapter) (cs : List Chapter) → book_of bytes lengths ≡ read (c ∷ cs) → 1 ≤ first_folio (head_of c ∷ models_of cs)
unfolding models_of
first_opens bytes lengths c cs is = some_folio_lem bytes lengths c cs is

module _ (bytes lengths : List ℕ) (c : Chapter) (cs : List Chapter) (is : book_of bytes lengths ≡ read (c ∷ cs)) {routes : Routes} {from : List ℕ} where
  module _ (routed : Routed (head_of c) (first_folio (models_of (c ∷ cs))) (models_of (c ∷ cs)) (length (models_of (c ∷ cs))) routes from) (last : ℕ) (told : last ≡ folio_after (best_end routes.one routes.two)) where
    abbrev one : Option theorems.Route
    one = route (head_of c) (first_folio (models_of (c ∷ cs))) (before (models_of (c ∷ cs)) (length (models_of (c ∷ cs)))) 1

    abbrev two : Option theorems.Route
    two = route (head_of c) (first_folio (models_of (c ∷ cs))) (before (models_of (c ∷ cs)) (length (models_of (c ∷ cs)))) 2

    ends : last ≡ ending one two
    ends = told ∙ rw (routed.one, routed.two) (best_ending one two)

    right : Binds (head_of c) (models_of cs) (all_alike bytes lengths c cs is) (first_opens bytes lengths c cs is) (ending one two) (finish one two)
    unfolding models_of
    right =
        subst
        (λ (bs : List model.Galley).
        Binds (head_of c) (models_of cs) (all_alike bytes lengths c cs is) (first_opens bytes lengths c cs is)
        (ending (route (head_of c) (first_folio (models_of (c ∷ cs))) (reverse_aux bs []) 1) (route (head_of c) (first_folio (models_of (c ∷ cs))) (reverse_aux bs []) 2))
        (finish (route (head_of c) (first_folio (models_of (c ∷ cs))) (reverse_aux bs []) 1) (route (head_of c) (first_folio (models_of (c ∷ cs))) (reverse_aux bs []) 2)))
        (sym (take-length (models_of (c ∷ cs))))
        (book_right (head_of c) (models_of cs) (all_alike bytes lengths c cs is) (first_opens bytes lengths c cs is))

    -- There is no choice where no folio follows,
    pub no_choice : last ≡ 0 → best_book (models_of (c ∷ cs)) ≡ none
    unfolding models_of
    no_choice z = go (finish one two) refl right
      where
        never : (r : theorems.Route) → ((ending one two ≡ 1) × (one ≡ some r)) ⊎ ((ending one two ≡ 2) × (two ≡ some r)) → ⊥
        never r (inl (e, x)) = let y = ends in omega arith
        never r (inr (e, x)) = let y = ends in omega arith

        go : (o : Option theorems.Route) → finish one two ≡ o
            → Binds (head_of c) (models_of cs) (all_alike bytes lengths c cs is) (first_opens bytes lengths c cs is) (ending one two) o → best_book (models_of (c ∷ cs)) ≡ none
        go none e (no_book b) = b
        go (some r) e (book b) = absurd (never r (ending_is one two r e))

    -- and where one does, the best choice leads there.
    pub on_route : (last ≡ 0 → ⊥) → OnRoute c cs from last
    unfolding models_of
    on_route n = go (finish one two) refl right
      where
        at : (r : theorems.Route) → ((ending one two ≡ 1) × (one ≡ some r)) ⊎ ((ending one two ≡ 2) × (two ≡ some r))
            → (route (head_of c) (first_folio (models_of (c ∷ cs))) (before (models_of (c ∷ cs)) (length (models_of (c ∷ cs)))) last ≡ some r) × (last ≤ 2)
        at r (inl (e, x)) = let l : last ≡ 1 = ends ∙ e in (ap (route (head_of c) (first_folio (models_of (c ∷ cs))) (before (models_of (c ∷ cs)) (length (models_of (c ∷ cs))))) l ∙ x, omega arith)
        at r (inr (e, x)) = let l : last ≡ 2 = ends ∙ e in (ap (route (head_of c) (first_folio (models_of (c ∷ cs))) (before (models_of (c ∷ cs)) (length (models_of (c ∷ cs))))) l ∙ x, omega arith)

        go : (o : Option theorems.Route) → finish one two ≡ o
            → Binds (head_of c) (models_of cs) (all_alike bytes lengths c cs is) (first_opens bytes lengths c cs is) (ending one two) o → OnRoute c cs from last
        go none e (no_book b) = absurd (n (ends ∙ ending_none one two e))
        go (some r) e (book b) =
            let ordered = book_ordered (head_of c) (models_of cs) (all_alike bytes lengths c cs is) (first_opens bytes lengths c cs is) (ending one two) r b in
            let (there, few) = at r (ending_is one two r e) in
            let way = follow_route routed (length (models_of (c ∷ cs))) (le_refl (length (models_of (c ∷ cs)))) last r there in
            let many = models_many (c ∷ cs) in
            record {
              choice = b.choice;
              folios = ordered.folios;
              best = b.best;
              course = rw ends ordered.course;
              few = few;
              leads = rw (← many) way.0;
              follows = λ after.
                  rw (← many) (way.1 after ∙ ap (λ fs. reverse_aux fs (last ∷ after)) ordered.is ∙ turned_twice ordered.folios [] (last ∷ after));
              pages = ordered.pages;
              x = ordered.x;
              white = ordered.white;
            }
