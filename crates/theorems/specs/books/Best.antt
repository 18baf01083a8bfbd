-- What making a book has to find: the best choice is that of the best route, and there is no route where the book has no choice.
use Prim.Native.Nat.{ℕ, ◌≤◌}
use Rattle.std.proofs.Common.{◌∙◌}
use Rattle.std.specs.Prelude.{◌≡◌, true}
use Rattle.std.proofs.Math.Path.{refl, sym, ap, subst}
use mathlib.Core.List.{List, [], ◌∷◌, reverse, reverse_aux, reverse-reverse}
use Rattle.std.proofs.Math.Option.{Option, none, some}
use Rattle.model.specs.Galley.{Galley}
use Rattle.model.specs.White.{white}
use Rattle.model.specs.Order.{then_by, by}
use Rattle.model.specs.Book.{first_folio, Choice, choices, book_turns, book_white, ties_of, tie_order, book_before, best_book}
use Rattle.model.specs.laws.Lists.{◌∈◌}
use Rattle.model.proofs.laws.Order.{then_by_last, lex_antisymm}
use Rattle.model.proofs.laws.Best.{first_of_is, first_of_none}
use Rattle.model.proofs.laws.Book.{tie_antisymm, book_preference}
use Rattle.theorems.specs.books.Backward.{Chosen, sum_back, chosen_front, chosen_back, sum_front, ties_front, ties_same}
use Rattle.theorems.specs.books.Turns.{Alike, turns_back, turns_front}
use Rattle.theorems.specs.books.Routes.{Route, finish, ending, route, Along}
use Rattle.theorems.specs.books.Through.{back_before}
use Rattle.theorems.specs.books.Choosing.{AllAlike, route_right}
use Rattle.theorems.specs.books.Theorem.{Finished, Finishes, no_finish, finishes, finish_right}

-- Chapters that are alike are so in any order.
all_onto : (h : Galley) (gs rs : List Galley) → AllAlike h gs → AllAlike h rs → AllAlike h (reverse_aux gs rs)
unfolding AllAlike
all_onto h [] rs a b = b
all_onto h (g ∷ gs) rs a b = all_onto h gs (g ∷ rs) a.1 (a.0, b)

-- A chapter more is one at least.
not_empty : (gs rs : List Galley) (g : Galley) → ¬ (reverse_aux gs (g ∷ rs) ≡ [])
not_empty [] rs g e = absurd cc
not_empty (x ∷ gs) rs g e = not_empty gs (g ∷ rs) x e

-- A galley is like itself.
pub alike_self : (h : Galley) → Alike h h
alike_self h = record { alpha = refl; beta = refl; sides = λ n. refl }

module _ (h : Galley) (gs : List Galley) (all : AllAlike h gs) (some_folio_lem : 1 ≤ first_folio (h ∷ gs)) where
  -- The chapters, the last first.
  abbrev pub backward : List Galley
  backward = reverse_aux (h ∷ gs) []

  -- Choices of the book compare as they do backwards.
  before_front : (cs ds : Choice) → cs ∈ choices (first_folio (h ∷ gs)) (h ∷ gs) → ds ∈ choices (first_folio (h ∷ gs)) (h ∷ gs)
      → book_before (first_folio (h ∷ gs)) (h ∷ gs) cs ds ≡ back_before h (first_folio (h ∷ gs)) backward (reverse_aux cs []) (reverse_aux ds [])
  unfolding book_before back_before then_by by book_white
  before_front cs ds m n =
      let f = first_folio (h ∷ gs) in
      rw (
        turns_front h f some_folio_lem gs cs m,
        turns_front h f some_folio_lem gs ds n,
        sum_front f (h ∷ gs) white cs m,
        sum_front f (h ∷ gs) white ds n,
        ties_front f (h ∷ gs) cs m,
        ties_front f (h ∷ gs) ds n,
      )
      refl

  -- Two choices that each come before the other are the same.
  choices_same : (cs ds : Choice) → cs ∈ choices (first_folio (h ∷ gs)) (h ∷ gs) → ds ∈ choices (first_folio (h ∷ gs)) (h ∷ gs)
      → book_before (first_folio (h ∷ gs)) (h ∷ gs) cs ds ≡ true → book_before (first_folio (h ∷ gs)) (h ∷ gs) ds cs ≡ true → cs ≡ ds
  unfolding book_before
  choices_same cs ds m n p q =
      let f = first_folio (h ∷ gs) in
      let p' = then_by_last _ _ cs ds p q in
      let q' = then_by_last _ _ ds cs q p in
      let p'' = then_by_last _ _ cs ds p' q' in
      let q'' = then_by_last _ _ ds cs q' p' in
      let ties : ties_of f (h ∷ gs) cs [] ≡ ties_of f (h ∷ gs) ds [] =
      unfold by in lex_antisymm tie_order tie_antisymm (ties_of f (h ∷ gs) cs []) (ties_of f (h ∷ gs) ds []) p'' q'' in
      let back : reverse_aux cs [] ≡ reverse_aux ds [] =
      ties_same f backward (reverse_aux cs []) (reverse_aux ds []) (chosen_front f (h ∷ gs) cs m) (chosen_front f (h ∷ gs) ds n)
      (sym (ties_front f (h ∷ gs) cs m) ∙ ties ∙ ties_front f (h ∷ gs) ds n) in
      sym (reverse-reverse cs) ∙ ap reverse back ∙ reverse-reverse ds

  -- Whoever has a choice that no choice comes before has the best.
  pub best_is : (cs : Choice) → cs ∈ choices (first_folio (h ∷ gs)) (h ∷ gs)
      → ((ds : Choice) → ds ∈ choices (first_folio (h ∷ gs)) (h ∷ gs) → book_before (first_folio (h ∷ gs)) (h ∷ gs) cs ds ≡ true)
      → best_book (h ∷ gs) ≡ some cs
  unfolding best_book
  best_is cs m ahead =
      let f = first_folio (h ∷ gs) in
      first_of_is (book_before f (h ∷ gs)) (book_preference f (h ∷ gs)) (choices f (h ∷ gs)) cs (record { among = m; ahead = ahead })
      (λ ds x. choices_same ds cs x.among m (x.ahead cs m) (ahead ds x.among))

  pub best_none : ((cs : Choice) → cs ∈ choices (first_folio (h ∷ gs)) (h ∷ gs) → ⊥) → best_book (h ∷ gs) ≡ none
  unfolding best_book
  best_none = let f = first_folio (h ∷ gs) in first_of_none (book_before f (h ∷ gs)) (book_preference f (h ∷ gs)) (choices f (h ∷ gs))

  -- The best choice, as a route to the next folio has it.
  pub record Bound (next : ℕ) (r : Route) : Type 0 where
    pub choice : Choice
    pub best : best_book (h ∷ gs) ≡ some choice
    pub lawful : choice ∈ choices (first_folio (h ∷ gs)) (h ∷ gs)
    pub turns : r.turns ≡ book_turns (first_folio (h ∷ gs)) (h ∷ gs) choice
    pub white : r.white ≡ book_white (first_folio (h ∷ gs)) (h ∷ gs) choice
    pub along : Along h (first_folio (h ∷ gs)) backward (reverse_aux choice []) next r.folios

  -- There is none, or the route is that of the best.
  pub data Binds (next : ℕ) : Option Route → Type 0 where
    no_book : best_book (h ∷ gs) ≡ none → Binds next none
    book : {r : Route} → Bound next r → Binds next (some r)

  pub book_right : Binds (ending (route h (first_folio (h ∷ gs)) backward 1) (route h (first_folio (h ∷ gs)) backward 2))
      (finish (route h (first_folio (h ∷ gs)) backward 1) (route h (first_folio (h ∷ gs)) backward 2))
  book_right = go backward refl (all_onto h (h ∷ gs) [] (unfold AllAlike in (alike_self h, all)) (unfold AllAlike in tt))
    where
      f : ℕ
      f = first_folio (h ∷ gs)

      settle : (g : Galley) (rs : List Galley) (a : Alike h g) → backward ≡ g ∷ rs → (next : ℕ) (r : Route) (x : Finished h f some_folio_lem g a rs next r)
          → (cs : Choice) → x.choice ≡ reverse_aux cs [] → cs ∈ choices f (h ∷ gs) → Bound next r
      settle g rs a e next r x cs is m =
          record {
            choice = cs;
            best =
                best_is cs m
                (λ ds n.
                before_front cs ds m n
                ∙ ap (λ bs. back_before h f bs (reverse_aux cs []) (reverse_aux ds [])) e
                ∙ ap (λ es. back_before h f (g ∷ rs) es (reverse_aux ds [])) (sym is)
                ∙ x.ahead (reverse_aux ds []) (subst (λ bs. Chosen f bs (reverse_aux ds [])) e (chosen_front f (h ∷ gs) ds n)));
            lawful = m;
            turns =
                x.turns
                ∙ ap (λ es. turns_back h f (g ∷ rs) es) is
                ∙ ap (λ bs. turns_back h f bs (reverse_aux cs [])) (sym e)
                ∙ sym (turns_front h f some_folio_lem gs cs m);
            white =
                x.white
                ∙ ap (λ es. sum_back white f (g ∷ rs) es) is
                ∙ ap (λ bs. sum_back white f bs (reverse_aux cs [])) (sym e)
                ∙ sym (unfold book_white in sum_front f (h ∷ gs) white cs m);
            along =
                subst (λ bs. Along h f bs (reverse_aux cs []) next r.folios) (sym e)
                (subst (λ es. Along h f (g ∷ rs) es next r.folios) is x.along);
          }

      out : (g : Galley) (rs : List Galley) (a : Alike h g) → backward ≡ g ∷ rs → (next : ℕ) (r : Option Route) → Finishes h f some_folio_lem g a rs next r → Binds next r
      out g rs a e next none (no_finish empty) =
          no_book (best_none (λ cs m.
          empty (reverse_aux cs []) (subst (λ bs. Chosen f bs (reverse_aux cs [])) e (chosen_front f (h ∷ gs) cs m))))
      out g rs a e next (some r) (finishes x) =
          let (cs, is, m) = chosen_back f (h ∷ gs) x.choice (subst (λ bs. Chosen f bs x.choice) (sym e) x.to.chosen) in
          book (settle g rs a e next r x cs is m)

      go : (bs : List Galley) → backward ≡ bs → AllAlike h bs → Binds (ending (route h f bs 1) (route h f bs 2)) (finish (route h f bs 1) (route h f bs 2))
      go [] e al = absurd (not_empty gs [] h e)
      go (g ∷ rs) e al =
          let al' : Alike h g × AllAlike h rs = unfold AllAlike in al in
          out g rs al'.0 e _ _
          (finish_right h f some_folio_lem g al'.0 rs _ _ (route_right h f some_folio_lem (g ∷ rs) al 1) (route_right h f some_folio_lem (g ∷ rs) al 2))
