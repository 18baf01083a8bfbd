-- Of the routes to one folio that come from different ones the preferred is the best: their last chapters differ in the number of pages, so
-- that ties are decided there.
use Rattle.std.specs.Prelude.{ℕ, suc, ◌+◌, ◌%◌, ◌≤◌, ◌≡◌, refl, ◌⊎◌, Bool, true, false, ◌&&◌, length, eqb}
use native.Mathlib.Omega.{arith}
use Rattle.std.proofs.Math.Decide.{ℕ_discrete}
use Rattle.std.proofs.Math.Path.{sym, ap}
use Rattle.std.proofs.Common.{◌∙◌, inl, inr, le-leb, eqb-true}
use mathlib.Core.List.{List, [], ◌∷◌}
use Rattle.std.proofs.Math.Option.{Option, none, some}
use Rattle.std.proofs.Math.Dec.{leb}
use Rattle.std.proofs.lemmas.Bool.{eqb-false}
use Rattle.model.specs.Gather.{implies, pick}
use Rattle.model.specs.Galley.{Sides, single, double, Galley, Place, streams, zeros}
use Rattle.model.specs.White.{white}
use Rattle.model.specs.Order.{then_by, by, lex, geb, oddly, starts_of}
use Rattle.model.specs.Book.{sides_on, open_on, Choice, Tie, tie_of, tie_order}
use Rattle.model.proofs.laws.Order.{Preference, preference_refl, lex_antisymm, geb_antisymm}
use Rattle.theorems.specs.pages.Graph.{side}
use Rattle.theorems.specs.books.Folios.{like, side_on, like_like, like_range}
use Rattle.theorems.specs.books.Closing.{closing_valid}
use Rattle.theorems.specs.books.Backward.{pages_in, Chosen, sum_back, ties_back}
use Rattle.theorems.specs.books.Turns.{Alike, turns_back, no_chapter, turns_none}
use Rattle.theorems.specs.books.Routes.{Route, preferred, choose, through, route, Along}
use Rattle.theorems.specs.books.Through.{back_before, back_preference, To, Via, like_alike, side_alike, via_to, via_ties, to_via, Passed, Passes, no_pass, pass, Routed, Routes, no_route, routed, through_right}

-- There are as many starts as pages.
starts_long : (u : Place) (ps after : List Place) → length (starts_of u ps after) ≡ length ps + length after
unfolding starts_of
starts_long u [] after = omega arith
starts_long u (v ∷ vs) after = let r = starts_long v vs (u ∷ after) in omega arith

-- 1 where the folio before this one is odd in double-sided work.
unfoldable pub odd_before : Sides → ℕ → ℕ
odd_before single next = 0
odd_before (double f) next = suc next % 2

-- The last folio of a list that closes so is odd or even by the next folio alone.
pub odd_closing : (s : Sides) (o p next : ℕ) → 1 ≤ o → side s p ≡ side s (o + next) → oddly (sides_on o s) p ≡ odd_before s next
unfolding side oddly sides_on odd_before
odd_closing single o p next l e = refl
odd_closing (double f) o p next l e = omega arith

-- From folios 1 and 2 lists of different numbers of pages lead to one folio.
pages_differ : (s : Sides) (n p next : ℕ) → like s n ≡ 2 → side s p ≡ side s (1 + next) → side s p ≡ side s (2 + next) → ⊥
unfolding like side
pages_differ single n p next e a b = omega arith
pages_differ (double f) n p next e a b = omega arith

-- Where two ties are as odd and have different starts, the starts decide.
starts_decide : (i : ℕ) (xs ys : List Place) (later later' : List Tie) → ¬ (xs ≡ ys)
    → lex tie_order ((i, xs) ∷ later) ((i, ys) ∷ later') ≡ lex (lex geb) xs ys
unfolding lex tie_order then_by by
starts_decide i xs ys later later' n =
    rw (le-leb i i (omega arith)) (go (lex (lex geb) xs ys) (lex (lex geb) ys xs) refl refl)
  where
    go : (a b : Bool) → lex (lex geb) xs ys ≡ a → lex (lex geb) ys xs ≡ b → a && implies b (lex tie_order later later') ≡ a
    go false b e f = refl
    go true false e f = refl
    go true true e f = absurd (n (lex_antisymm (lex geb) (search (lex_antisymm, geb_antisymm)) xs ys e f))

module _ (h : Galley) (f : ℕ) (some_folio_lem : 1 ≤ f) (g : Galley) (a : Alike h g) (rs : List Galley) (next : ℕ)
    (l : like h.spec.sides next ≡ next) where
  -- What closes on the next folio closes on a side of the chapter,
  via_side : (o : ℕ) (ps : List Place) (cs : Choice) → Via h f g rs o next ps cs
      → side g.spec.sides (length ps) ≡ side g.spec.sides (o + next)
  unfolding open_on
  via_side o ps cs v =
      sym (side_on g.spec.sides o (length ps))
      ∙ (closing_valid (open_on o g) _ ps v.closes).1
      ∙ sym (side_alike h g a o (o + next))
      ∙ side_on g.spec.sides o (o + next)

  -- and its tie tells the next folio and its starts.
  via_tie : (o : ℕ) (ps : List Place) (cs : Choice) → 1 ≤ o → Via h f g rs o next ps cs
      → tie_of (open_on o g) ps ≡ (odd_before g.spec.sides next, starts_of (zeros g) ps [])
  unfolding tie_of open_on zeros streams
  via_tie o ps cs k v = ap (λ i. (i, starts_of (zeros g) ps [])) (odd_closing g.spec.sides o (length ps) next k (via_side o ps cs v))

  module _ (r r' : Route) (x : Passed h f some_folio_lem g a rs 1 next r) (y : Passed h f some_folio_lem g a rs 2 next r') where
    starts_differ : ¬ (starts_of (zeros g) x.pages [] ≡ starts_of (zeros g) y.pages [])
    starts_differ e =
        let one = starts_long (zeros g) x.pages [] in
        let two = starts_long (zeros g) y.pages [] in
        let same = ap length e in
        let long : length x.pages ≡ length y.pages = omega arith in
        pages_differ g.spec.sides (f + pages_in y.choice) (length x.pages) next
        (like_alike h g a (f + pages_in y.choice) ∙ y.via.to.folio) (via_side 1 x.pages x.choice x.via)
        (ap (side g.spec.sides) long ∙ via_side 2 y.pages y.choice y.via)

    ties_decide : lex (lex geb) (starts_of (zeros g) x.pages []) (starts_of (zeros g) y.pages [])
        ≡ lex tie_order (tie_of (open_on 1 g) x.pages ∷ ties_back f rs x.choice) (tie_of (open_on 2 g) y.pages ∷ ties_back f rs y.choice)
    ties_decide =
        rw (via_tie 1 x.pages x.choice (omega arith) x.via, via_tie 2 y.pages y.choice (omega arith) y.via)
        (sym (starts_decide (odd_before g.spec.sides next) (starts_of (zeros g) x.pages []) (starts_of (zeros g) y.pages [])
        (ties_back f rs x.choice) (ties_back f rs y.choice) starts_differ))

    -- Two routes from folios 1 and 2 compare as their choices do.
    preferred_before : preferred r r' ≡ back_before h f (g ∷ rs) (x.pages ∷ x.choice) (y.pages ∷ y.choice)
    unfolding preferred back_before then_by by
    preferred_before =
        let t = turns_back h f (g ∷ rs) (x.pages ∷ x.choice) in
        let t' = turns_back h f (g ∷ rs) (y.pages ∷ y.choice) in
        let w = sum_back white f (g ∷ rs) (x.pages ∷ x.choice) in
        let w' = sum_back white f (g ∷ rs) (y.pages ∷ y.choice) in
        rw (
          x.turns,
          y.turns,
          x.white,
          y.white,
          x.starts,
          y.starts,
          via_ties h f some_folio_lem g a rs 1 next x.pages x.choice x.via,
          via_ties h f some_folio_lem g a rs 2 next y.pages y.choice y.via,
        )
        (ap (λ b. leb t t' && implies (leb t' t) (leb w w' && implies (leb w' w) b)) ties_decide)

  -- A choice to the next folio has a last chapter, and goes through folio 1 or 2.
  every_to : (P : Choice → Type 0)
      → ((ps : List Place) (cs : Choice) → Via h f g rs 1 next ps cs → P (ps ∷ cs))
      → ((ps : List Place) (cs : Choice) → Via h f g rs 2 next ps cs → P (ps ∷ cs))
      → (ds : Choice) → To h f (g ∷ rs) next ds → P ds
  unfolding Chosen
  every_to P one two [] t = absurd t.chosen
  every_to P one two (ps ∷ cs) t =
      go (like h.spec.sides (f + pages_in cs)) (like_range h.spec.sides (f + pages_in cs))
      (to_via h f some_folio_lem g a rs next ps cs t)
    where
      go : (o : ℕ) → (1 ≤ o) × (o ≤ 2) → Via h f g rs o next ps cs → P (ps ∷ cs)
      go o range v =
          elim (ℕ_discrete o 1) [
            | yes e ↦ one ps cs (rw e at v)
            | no n ↦ let e : o ≡ 2 = omega arith in two ps cs (rw e at v)
          ]

  -- A passed route that comes before all others is right.
  taken : (o : ℕ) (r : Route) (x : Passed h f some_folio_lem g a rs o next r)
      → ((ds : Choice) → To h f (g ∷ rs) next ds → back_before h f (g ∷ rs) (x.pages ∷ x.choice) ds ≡ true)
      → Routes h f (g ∷ rs) next (some r)
  taken o r x ahead =
      routed (record {
        choice = x.pages ∷ x.choice;
        to = via_to h f some_folio_lem g a rs o next x.pages x.choice l x.via;
        ahead = ahead;
        turns = x.turns;
        white = x.white;
        along = x.along;
      })

  pub choose_right : (r r' : Option Route) → Passes h f some_folio_lem g a rs 1 next r → Passes h f some_folio_lem g a rs 2 next r'
      → Routes h f (g ∷ rs) next (choose r r')
  unfolding choose
  choose_right none none (no_pass u) (no_pass v) = no_route (every_to (λ ds. ⊥) u v)
  choose_right none (some r') (no_pass u) (pass y) = taken 2 r' y (every_to _ (λ ps cs v. absurd (u ps cs v)) y.ahead)
  choose_right (some r) none (pass x) (no_pass v) = taken 1 r x (every_to _ x.ahead (λ ps cs w. absurd (v ps cs w)))
  choose_right (some r) (some r') (pass x) (pass y) = go (preferred r r') (sym (preferred_before r r' x y))
    where
      P : Preference (back_before h f (g ∷ rs))
      P = back_preference h f (g ∷ rs)

      mine : Choice
      mine = x.pages ∷ x.choice

      other : Choice
      other = y.pages ∷ y.choice

      back : back_before h f (g ∷ rs) mine other ≡ false → (back_before h f (g ∷ rs) mine other ≡ true) ⊎ (back_before h f (g ∷ rs) other mine ≡ true)
          → back_before h f (g ∷ rs) other mine ≡ true
      back e (inl k) = absurd cc
      back e (inr k) = k

      go : (b : Bool) → back_before h f (g ∷ rs) mine other ≡ b → Routes h f (g ∷ rs) next (some (pick b r r'))
      go true e = taken 1 r x (every_to _ x.ahead (λ ps cs v. P.trans mine other (ps ∷ cs) e (y.ahead ps cs v)))
      go false e =
          taken 2 r' y (every_to _ (λ ps cs v. P.trans other mine (ps ∷ cs) (back e (P.total mine other)) (x.ahead ps cs v)) y.ahead)

-- All chapters are alike.
unfoldable pub AllAlike : Galley → List Galley → Type 0
AllAlike h [] = Unit {0}
AllAlike h (g ∷ gs) = Alike h g × AllAlike h gs

-- Before the first chapter there is one choice, of no pages.
no_chapter_lem : (f : ℕ) (cs : Choice) → Chosen f [] cs → (cs ≡ []) × (f + pages_in cs ≡ f)
unfolding Chosen pages_in
no_chapter_lem f [] c = (refl, omega arith)
no_chapter_lem f (ps ∷ cs) c = absurd c

no_chapters_lem : (h : Galley) (f next : ℕ) → like h.spec.sides f ≡ next
    → Routed h f [] next (record { turns = 0; white = 0; folios = []; starts = [] })
unfolding Chosen sum_back Along
no_chapters_lem h f next e =
    record {
      choice = [];
      to = record { chosen = tt; folio = ap (like h.spec.sides) (no_chapter_lem f [] tt).1 ∙ e };
      ahead = λ ds t. rw (no_chapter_lem f ds t.chosen).0 (preference_refl (back_preference h f []) []);
      turns = sym (turns_none h f);
      white = refl;
      along = tt;
    }

-- The routes are right, after any chapters.
pub route_right : (h : Galley) (f : ℕ) → 1 ≤ f → (rs : List Galley) → AllAlike h rs → (next : ℕ) → Routes h f rs next (route h f rs next)
unfolding route AllAlike
route_right h f some_folio_lem [] all next = go (eqb next (like h.spec.sides f)) refl
  where
    go : (b : Bool) → eqb next (like h.spec.sides f) ≡ b
        → Routes h f [] next (pick b (some (record { turns = 0; white = 0; folios = []; starts = [] })) none)
    go true e = routed (no_chapters_lem h f next (sym (eqb-true next (like h.spec.sides f) e)))
    go false e =
        no_route (λ cs t. eqb-false next (like h.spec.sides f) e (sym t.folio ∙ ap (like h.spec.sides) (no_chapter_lem f cs t.chosen).1))
route_right h f some_folio_lem (g ∷ rs) all next = go (eqb (like h.spec.sides next) next) refl
    (route_right h f some_folio_lem rs all.1 1) (route_right h f some_folio_lem rs all.1 2)
  where
    go : (b : Bool) → eqb (like h.spec.sides next) next ≡ b → Routes h f rs 1 (route h f rs 1) → Routes h f rs 2 (route h f rs 2)
        → Routes h f (g ∷ rs) next
        (pick b (choose (through h g (no_chapter rs) 1 next (route h f rs 1)) (through h g (no_chapter rs) 2 next (route h f rs 2))) none)
    go true e x y =
        let l = eqb-true (like h.spec.sides next) next e in
        choose_right h f some_folio_lem g all.0 rs next l _ _
        (through_right h f some_folio_lem g all.0 rs 1 next l (route h f rs 1) x)
        (through_right h f some_folio_lem g all.0 rs 2 next l (route h f rs 2) y)
    go false e x y =
        no_route (λ cs t.
        eqb-false (like h.spec.sides next) next e
        (ap (like h.spec.sides) (sym t.folio) ∙ like_like h.spec.sides (f + pages_in cs) ∙ t.folio))
