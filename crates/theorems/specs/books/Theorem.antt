-- The best of the two routes at the end is the best choice of the book, and where there is none the book has no choice.
use Rattle.std.specs.Prelude.{ℕ, ◌+◌, ◌≤◌, ◌≡◌, refl, ◌⊎◌, Bool, true, false, ◌&&◌}
use native.Mathlib.Omega.{arith}
use Rattle.std.proofs.Math.Decide.{ℕ_discrete}
use Rattle.std.proofs.Common.{sym, ◌∙◌, inl, inr}
use Rattle.std.proofs.Math.Path.{ap}
use mathlib.Core.List.{List, [], ◌∷◌}
use Rattle.std.proofs.Math.Option.{Option, none, some}
use Rattle.std.proofs.Math.ListN.{length}
use Rattle.std.proofs.Math.Dec.{leb}
use Rattle.model.specs.Gather.{implies, pick}
use Rattle.model.specs.Galley.{Sides, single, double, Galley, Place, zeros}
use Rattle.model.specs.White.{white}
use Rattle.model.specs.Order.{then_by, by, lex, oddly, starts_of}
use Rattle.model.specs.Book.{sides_on, open_on, Choice, Tie, tie_of, tie_order}
use Rattle.model.proofs.laws.Order.{Preference}
use Rattle.theorems.specs.books.Folios.{like, like_range}
use Rattle.theorems.specs.books.Backward.{pages_in, Chosen, sum_back, ties_back}
use Rattle.theorems.specs.books.Turns.{Alike, turns_back}
use Rattle.theorems.specs.books.Routes.{Route, cheaper, finish, ending, Along}
use Rattle.theorems.specs.books.Through.{back_before, back_preference, To, like_alike, Routed, Routes, no_route, routed}
use Rattle.theorems.specs.books.Choosing.{odd_before}

-- The last folio is odd or even by the folio that follows.
odd_to : (s : Sides) (n p : ℕ) → 1 ≤ n → oddly (sides_on n s) p ≡ odd_before s (like s (n + p))
unfolding oddly sides_on odd_before like
odd_to single n p k = refl
odd_to (double f) n p k = omega arith

-- After folio 1 comes an even one at the end of a book: it is preferred to what folio 2 follows.
odd_one : (s : Sides) (n : ℕ) → like s n ≡ 2 → (odd_before s 1 ≡ 0) × (odd_before s 2 ≡ 1)
unfolding like odd_before
odd_one single n e = absurd (omega arith)
odd_one (double f) n e = (refl, refl)

even_first : (xs ys : List Place) (later later' : List Tie) → lex tie_order ((0, xs) ∷ later) ((1, ys) ∷ later') ≡ true
unfolding lex tie_order then_by by
even_first xs ys later later' = refl

and_true : (a b : Bool) → a ≡ a && implies b true
and_true true true = refl
and_true true false = refl
and_true false b = refl

module _ (h : Galley) (f : ℕ) (some_folio_lem : 1 ≤ f) (g : Galley) (a : Alike h g) (rs : List Galley) where
  -- The tie of the last chapter's list, by the folio that follows.
  last_tie : (next : ℕ) (ps : List Place) (cs : Choice) → To h f (g ∷ rs) next (ps ∷ cs)
      → tie_of (open_on (f + pages_in cs) g) ps ≡ (odd_before g.spec.sides next, starts_of (zeros (open_on (f + pages_in cs) g)) ps [])
  unfolding tie_of open_on pages_in
  last_tie next ps cs t =
      let sum : (f + pages_in cs) + length ps ≡ f + (pages_in cs + length ps) = omega arith in
      let e : like g.spec.sides ((f + pages_in cs) + length ps) ≡ next =
      ap (like g.spec.sides) sum ∙ like_alike h g a (f + (pages_in cs + length ps)) ∙ t.folio in
      ap (λ i. (i, starts_of (zeros (open_on (f + pages_in cs) g)) ps []))
      (odd_to g.spec.sides (f + pages_in cs) (length ps) (omega arith) ∙ ap (odd_before g.spec.sides) e)

  -- Routes to folios 1 and 2 compare by their costs, and at equal cost the first is preferred, as their choices are.
  ties_even : (cs ds : Choice) → To h f (g ∷ rs) 1 cs → To h f (g ∷ rs) 2 ds → lex tie_order (ties_back f (g ∷ rs) cs) (ties_back f (g ∷ rs) ds) ≡ true
  unfolding ties_back Chosen
  ties_even [] ds t u = absurd t.chosen
  ties_even (ps ∷ cs) [] t u = absurd u.chosen
  ties_even (ps ∷ cs) (qs ∷ ds) t u =
      let (one, two) = odd_one g.spec.sides (f + pages_in (qs ∷ ds)) (like_alike h g a (f + pages_in (qs ∷ ds)) ∙ u.folio) in
      rw (last_tie 1 ps cs t, last_tie 2 qs ds u, one, two) (even_first _ _ _ _)

  cheaper_before : (r r' : Route) (x : Routed h f (g ∷ rs) 1 r) (y : Routed h f (g ∷ rs) 2 r')
      → cheaper r r' ≡ back_before h f (g ∷ rs) x.choice y.choice
  unfolding cheaper back_before then_by by
  cheaper_before r r' x y =
      let t = turns_back h f (g ∷ rs) x.choice in
      let t' = turns_back h f (g ∷ rs) y.choice in
      let w = sum_back white f (g ∷ rs) x.choice in
      let w' = sum_back white f (g ∷ rs) y.choice in
      rw (x.turns, y.turns, x.white, y.white, ties_even x.choice y.choice x.to y.to)
      (ap (λ b. leb t t' && implies (leb t' t) b) (and_true (leb w w') (leb w' w)))

  -- The best choice of all, as a route to the next folio has it.
  pub record Finished (next : ℕ) (r : Route) : Type 0 where
    pub choice : Choice
    pub to : To h f (g ∷ rs) next choice
    pub ahead : (ds : Choice) → Chosen f (g ∷ rs) ds → back_before h f (g ∷ rs) choice ds ≡ true
    pub turns : r.turns ≡ turns_back h f (g ∷ rs) choice
    pub white : r.white ≡ sum_back white f (g ∷ rs) choice
    pub along : Along h f (g ∷ rs) choice next r.folios

  pub data Finishes (next : ℕ) : Option Route → Type 0 where
    no_finish : ((cs : Choice) → ¬ Chosen f (g ∷ rs) cs) → Finishes next none
    finishes : {r : Route} → Finished next r → Finishes next (some r)

  every : (P : Choice → Type 0) → ((cs : Choice) → To h f (g ∷ rs) 1 cs → P cs) → ((cs : Choice) → To h f (g ∷ rs) 2 cs → P cs)
      → (ds : Choice) → Chosen f (g ∷ rs) ds → P ds
  every P one two ds c =
      let range = like_range h.spec.sides (f + pages_in ds) in
      elim (ℕ_discrete (like h.spec.sides (f + pages_in ds)) 1) [
        | yes e ↦ one ds (record { chosen = c; folio = e })
        | no n ↦ two ds (record { chosen = c; folio = omega (arith, range.0, range.1, n) })
      ]

  ended : (o : ℕ) (r : Route) (x : Routed h f (g ∷ rs) o r)
      → ((ds : Choice) → Chosen f (g ∷ rs) ds → back_before h f (g ∷ rs) x.choice ds ≡ true) → Finishes o (some r)
  ended o r x ahead =
      finishes (record { choice = x.choice; to = x.to; ahead = ahead; turns = x.turns; white = x.white; along = x.along })

  pub finish_right : (r r' : Option Route) → Routes h f (g ∷ rs) 1 r → Routes h f (g ∷ rs) 2 r' → Finishes (ending r r') (finish r r')
  unfolding finish ending
  finish_right none none (no_route u) (no_route v) = no_finish (every (λ ds. ⊥) u v)
  finish_right none (some r') (no_route u) (routed y) = ended 2 r' y (every _ (λ cs v. absurd (u cs v)) y.ahead)
  finish_right (some r) none (routed x) (no_route v) = ended 1 r x (every _ x.ahead (λ cs w. absurd (v cs w)))
  finish_right (some r) (some r') (routed x) (routed y) = go (cheaper r r') (sym (cheaper_before r r' x y))
    where
      P : Preference (back_before h f (g ∷ rs))
      P = back_preference h f (g ∷ rs)

      back : back_before h f (g ∷ rs) x.choice y.choice ≡ false
          → (back_before h f (g ∷ rs) x.choice y.choice ≡ true) ⊎ (back_before h f (g ∷ rs) y.choice x.choice ≡ true)
          → back_before h f (g ∷ rs) y.choice x.choice ≡ true
      back e (inl k) = absurd cc
      back e (inr k) = k

      go : (b : Bool) → back_before h f (g ∷ rs) x.choice y.choice ≡ b → Finishes (pick b 1 2) (some (pick b r r'))
      go true e = ended 1 r x (every _ x.ahead (λ cs v. P.trans x.choice y.choice cs e (y.ahead cs v)))
      go false e =
          ended 2 r' y
          (every _ (λ cs v. P.trans y.choice x.choice cs (back e (P.total x.choice y.choice)) (x.ahead cs v)) y.ahead)
