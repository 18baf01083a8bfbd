-- The best route to the next folio, as the code finds it, is the theorem's, and comes from the folio that the theorem says.
use Rattle.std.specs.Prelude.{ℕ, ◌≤◌, ◌<◌, ◌≡◌, Bool, true, false, List, [], ◌∷◌, eqb}
use Rattle.std.proofs.Math.Decide.{ℕ_discrete, dec_lt}
use Rattle.std.proofs.Common.{arith, sym, ◌∙◌, ap, eqb-true, eq-eqb, ne_eqb, lt-ltb, le-ltb}
use Rattle.std.proofs.Math.Path.{refl}
use Rattle.std.proofs.Math.Option.{Option, none, some}
use Rattle.model.specs.Gather.{pick}
use Rattle.model.specs.Galley as model
use Rattle.model.specs.Leaf.{sides_of}
use Rattle.model.specs.Order.{lex, geb}
use Rattle.theorems.specs.books.Folios.{like, like_like}
use Rattle.theorems.specs.books.Turns.{Alike, no_chapter}
use Rattle.theorems.specs.books.Through.{like_alike}
use Rattle.theorems.specs.books.Routes as theorems
use Rattle.theorems.specs.books.Routes.{choose, through, route}
use Rattle.theorems.specs.books.Engine.{taken, comes_from}
use Rattle.galley.specs.declared.Galley.{Galley}
use Rattle.galley.specs.Model.{model_of}
use Rattle.galley.specs.Sound.{Sound}
use Rattle.candidates.specs.Read.{table_in}
use Rattle.walk.specs.Trace.{entry_of}
use Rattle.closings.specs.Chapter.{on_folio, Tabled}
use Rattle.routes.specs.Routes.{Route}
use Rattle.std.specs.Prelude.{None}
use Rattle.routes.specs.declared.Routes.{Routes}
use Rattle.routes.specs.declared.Step.{Step}
use Rattle.routes.specs.Routes.{kept_of, is_reached}
use Rattle.routes.specs.Offer.{turn_to, passed, closing_from, later_from, decided, offer_of, route_to}
use Rattle.routes.specs.Next.{Arrives}
use Rattle.routes.specs.laws.Through.{offer_kept, offer_view}
use Rattle.routes.specs.laws.Tie.{later-right}
use Rattle.routes.specs.laws.Kept.{decided_kept}

-- Folio 2 occurs in double-sided work alone.
like_of : (n f next : ℕ) → 1 ≤ n → n ≤ 2 → 1 ≤ next → next ≤ n → like (sides_of n f) next ≡ next
unfolding like sides_of
like_of n f next pos few low l = go (ℕ_discrete n 2)
  where
    go : Dec (n ≡ 2) → like (pick (eqb n 2) (model.double f) model.single) next ≡ next
    go (yes e) = rw (eq-eqb n 2 e) (omega arith)
    go (no e) = rw (ne_eqb n 2 e) (omega arith)

like_not : (n f next : ℕ) → 1 ≤ n → n < next → next ≤ 2 → ¬ (like (sides_of n f) next ≡ next)
unfolding like sides_of
like_not n f next pos l few e =
    let is : n ≡ 1 = omega arith in
    let one : ◌≡◌ {A = ℕ} 1 next = rw (ne_eqb n 2 (λ e. omega arith)) at e in
    omega arith

-- A route leads to a folio that occurs.
route_occurs : (h : model.Galley) (f : ℕ) (rs : List model.Galley) (next : ℕ) (r : theorems.Route) → route h f rs next ≡ some r
    → like h.spec.sides next ≡ next
unfolding route
route_occurs h f [] next r e = go (eqb next (like h.spec.sides f)) refl e
  where
    go : (b : Bool) → eqb next (like h.spec.sides f) ≡ b
        → ◌≡◌ {A = Option theorems.Route} (pick b (some (record { turns = 0; white = 0; folios = []; starts = [] })) none) (some r)
        → like h.spec.sides next ≡ next
    go true t e =
        let is = eqb-true next (like h.spec.sides f) t in
        ap (like h.spec.sides) is ∙ like_like h.spec.sides f ∙ sym is
    go false t e = let z : ◌≡◌ {A = ℕ} 0 1 = cc in absurd (omega arith)
route_occurs h f (g ∷ rs) next r e = go (eqb (like h.spec.sides next) next) refl e
  where
    go : (b : Bool) → eqb (like h.spec.sides next) next ≡ b
        → ◌≡◌ {A = Option theorems.Route} (pick b (choose (through h g (no_chapter rs) 1 next (route h f rs 1)) (through h g (no_chapter rs) 2 next (route h f rs 2))) none) (some r)
        → like h.spec.sides next ≡ next
    go true t e = eqb-true (like h.spec.sides next) next t
    go false t e = let z : ◌≡◌ {A = ℕ} 0 1 = cc in absurd (omega arith)

-- A route through a chapter goes on from one.
through_from : (h g : model.Galley) (first : Bool) (o next : ℕ) (q : Option theorems.Route) (r : theorems.Route)
    → through h g first o next q ≡ some r → (p : theorems.Route) × (q ≡ some p)
unfolding through
through_from h g first o next none r e = let z : ◌≡◌ {A = ℕ} 0 1 = cc in absurd (omega arith)
through_from h g first o next (some p) r e = (p, refl)

-- The routes to folio `next` after chapter g, which occurs or not.
module _ (h : model.Galley) (f : ℕ) (g : model.Galley) (rs : List model.Galley) (next : ℕ) where
  route_some : like h.spec.sides next ≡ next
      → route h f (g ∷ rs) next
      ≡ choose (through h g (no_chapter rs) 1 next (route h f rs 1)) (through h g (no_chapter rs) 2 next (route h f rs 2))
  unfolding route
  route_some l = rw (eq-eqb (like h.spec.sides next) next l) refl

  route_none : ¬ (like h.spec.sides next ≡ next) → route h f (g ∷ rs) next ≡ none
  unfolding route
  route_none l = rw (ne_eqb (like h.spec.sides next) next l) refl

-- A chapter alike the first, the routes before it, and its tables from the folios that they lead to.
module _ (h : model.Galley) (f : ℕ) (rs : List model.Galley) {bytes : List ℕ} {g : Galley} (a : Alike h (model_of bytes g)) (so : Sound bytes g)
    {routes : Routes} (one : routes.one ≡ kept_of (route h f rs 1)) (two : routes.two ≡ kept_of (route h f rs 2)) {w v : List ℕ}
    (first : is_reached routes.one ≡ true → Tabled bytes (on_folio 1 g) w)
    (second : is_reached routes.two ≡ true → Tabled bytes (on_folio 2 g) v) where
  offers : (o next : ℕ) (r : Route) (q : Option theorems.Route) {u : List ℕ} → r ≡ kept_of q → (is_reached r ≡ true → Tabled bytes (on_folio o g) u)
      → offer_of g r (no_chapter rs) o next u ≡ kept_of (through h (model_of bytes g) (no_chapter rs) o next q)
  offers o next r q {u} e tabled =
      ap (λ r. passed r (turn_to g (no_chapter rs) o) (entry_of (table_in g u) (closing_from g o next))) e
      ∙ offer_kept h bytes g a (no_chapter rs) o next q (λ t. tabled (ap is_reached e ∙ t))

  -- At equal cost the walks tell which starts are preferred.
  tie : (next : ℕ) (r q : theorems.Route) → through h (model_of bytes g) (no_chapter rs) 1 next (route h f rs 1) ≡ some r
      → through h (model_of bytes g) (no_chapter rs) 2 next (route h f rs 2) ≡ some q → later_from g w v next ≡ lex (lex geb) r.starts q.starts
  tie next r q d e =
      let (p, is) = through_from h (model_of bytes g) (no_chapter rs) 2 next (route h f rs 2) q e in
      later-right h a next r q
      (offer_view h bytes g a (no_chapter rs) 1 next (route h f rs 1) (λ t. first (ap is_reached one ∙ t)) r d)
      (offer_view h bytes g a (no_chapter rs) 2 next (route h f rs 2) (λ t. second (ap is_reached two ∙ t)) q e)
      (route_occurs h f rs 2 p is)

  pub arrived_right : (next : ℕ) → 1 ≤ next → next ≤ 2 → (r : Step) → r ≡ route_to g routes (no_chapter rs) next w v
      → Arrives h f (model_of bytes g) rs next r
  unfolding comes_from
  arrived_right next low high r e = go (dec_lt g.spec.sides next)
    where
      A : Option theorems.Route
      A = through h (model_of bytes g) (no_chapter rs) 1 next (route h f rs 1)

      B : Option theorems.Route
      B = through h (model_of bytes g) (no_chapter rs) 2 next (route h f rs 2)

      same : like h.spec.sides next ≡ like (sides_of g.spec.sides g.folio) next
      same = sym (like_alike h (model_of bytes g) a next)

      absent : route h f (model_of bytes g ∷ rs) next ≡ none → r ≡ record { route = None; from = 1 } → Arrives h f (model_of bytes g) rs next r
      absent n is =
          record {
            best = ap (λ (s : Step). s.route) is ∙ sym (ap kept_of n);
            from = λ q t. let z : ◌≡◌ {A = Option theorems.Route} none (some q) = sym n ∙ t in let y : ◌≡◌ {A = ℕ} 0 1 = cc in absurd (omega arith);
          }

      there : route h f (model_of bytes g ∷ rs) next ≡ choose A B → r ≡ record { route = kept_of (choose A B); from = taken A B }
          → Arrives h f (model_of bytes g) rs next r
      there n is = record { best = ap (λ (s : Step). s.route) is ∙ sym (ap kept_of n); from = λ q t. ap (λ (s : Step). s.from) is }

      go : Dec (g.spec.sides < next) → Arrives h f (model_of bytes g) rs next r
      go (yes l) =
          absent
          (route_none h f (model_of bytes g) rs next (λ t. like_not g.spec.sides g.folio next so.spec_ranged.sides_some l high (sym same ∙ t)))
          (e ∙ rw (lt-ltb g.spec.sides next l) refl)
      go (no l) =
          there
          (route_some h f (model_of bytes g) rs next
          (same ∙ like_of g.spec.sides g.folio next so.spec_ranged.sides_some so.spec_ranged.sides_two low (omega arith)))
          (e ∙ whole
          ∙ ap (λ x. decided (later_from g w v next) x (offer_of g routes.two (no_chapter rs) 2 next v)) (offers 1 next routes.one (route h f rs 1) one first)
          ∙ ap (λ y. decided (later_from g w v next) (kept_of A) y) (offers 2 next routes.two (route h f rs 2) two second)
          ∙ decided_kept A B (later_from g w v next) (tie next))
        where
          whole : route_to g routes (no_chapter rs) next w v
              ≡ decided (later_from g w v next) (offer_of g routes.one (no_chapter rs) 1 next w) (offer_of g routes.two (no_chapter rs) 2 next v)
          whole = rw (le-ltb g.spec.sides next (omega arith)) refl
