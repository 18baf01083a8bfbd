-- The folios that are followed back are those of the best route.
use Prim.Native.Nat.{ℕ, zero, suc, ◌+◌, ◌-◌, ◌*◌, ◌≤◌, ◌<◌}
use Rattle.std.proofs.Math.Decide.{ℕ_discrete}
use Rattle.std.proofs.Common.{arith, sym, ◌∙◌, subst, eqb-true}
use Rattle.std.specs.Prelude.{◌≡◌, refl, Bool, true, false, length, get_or, take, drop, eqb}
use Rattle.std.proofs.Math.Path.{ap}
use mathlib.Core.List.{List, [], ◌∷◌, reverse_aux}
use Rattle.std.proofs.Math.Option.{Option, none, some}
use Rattle.model.specs.Gather.{pick}
use Rattle.model.specs.Galley as model
use Rattle.theorems.specs.books.Folios.{like, like_range}
use Rattle.theorems.specs.books.Routes as theorems
use Rattle.theorems.specs.books.Routes.{route}
use Rattle.theorems.specs.books.Engine.{comes_from, route_onward}
use Rattle.routes.specs.declared.Routes.{Routes}
use Rattle.routes.specs.Routes.{before, ComesFrom, Routed}
use Rattle.course.specs.Trace.{came_from, followed, Leads}

-- A route leads to folio 1 or 2.
route_range : (h : model.Galley) (f : ℕ) (rs : List model.Galley) (o : ℕ) (r : theorems.Route) → route h f rs o ≡ some r → (1 ≤ o) × (o ≤ 2)
unfolding route
route_range h f [] o r e = go (eqb o (like h.spec.sides f)) refl e
  where
    go : (b : Bool) → eqb o (like h.spec.sides f) ≡ b
        → ◌≡◌ {A = Option theorems.Route} (pick b (some (record { turns = 0; white = 0; folios = []; starts = [] })) none) (some r) → (1 ≤ o) × (o ≤ 2)
    go true q e = let l = like_range h.spec.sides f in let s = eqb-true o (like h.spec.sides f) q in (omega (arith, l.0), omega (arith, l.1))
    go false q e = let z : ◌≡◌ {A = ℕ} 0 1 = cc in absurd (omega arith)
route_range h f (g ∷ rs) o r e = go (eqb (like h.spec.sides o) o) refl _ e
  where
    go : (b : Bool) → eqb (like h.spec.sides o) o ≡ b → (q : Option theorems.Route) → pick b q none ≡ some r → (1 ≤ o) × (o ≤ 2)
    go true t q e = let l = like_range h.spec.sides o in let s = eqb-true (like h.spec.sides o) o t in (omega (arith, l.0), omega (arith, l.1))
    go false t q e = let z : ◌≡◌ {A = ℕ} 0 1 = cc in absurd (omega arith)

-- Before the first chapter no folio was passed.
first_folios : (h : model.Galley) (f o : ℕ) (r : theorems.Route) → route h f [] o ≡ some r → r.folios ≡ []
unfolding route
first_folios h f o r e = go (eqb o (like h.spec.sides f)) e
  where
    go : (b : Bool) → ◌≡◌ {A = Option theorems.Route} (pick b (some (record { turns = 0; white = 0; folios = []; starts = [] })) none) (some r) → r.folios ≡ []
    go true e = let z : ◌≡◌ {A = List ℕ} r.folios [] = cc in z
    go false e = let z : ◌≡◌ {A = ℕ} 0 1 = cc in absurd (omega arith)

-- One chapter more is before the next.
before_suc : (gs : List model.Galley) (k : ℕ) → k < length gs
    → (g : model.Galley) × (take 1 (drop k gs) ≡ g ∷ []) × (before gs (suc k) ≡ g ∷ before gs k)
before_suc gs k h = go gs k h []
  where
    go : (gs : List model.Galley) (k : ℕ) → k < length gs → (acc : List model.Galley)
        → (g : model.Galley) × (take 1 (drop k gs) ≡ g ∷ []) × (reverse_aux (take (suc k) gs) acc ≡ g ∷ reverse_aux (take k gs) acc)
    go [] k h acc = absurd (omega arith)
    go (g ∷ gs) zero h acc = (g, refl, refl)
    go (g ∷ gs) (suc k) h acc = go gs k (omega arith) (g ∷ acc)

module _ {h : model.Galley} {f : ℕ} {gs : List model.Galley} {n : ℕ} {routes : Routes} {from : List ℕ} (is : Routed h f gs n routes from) where
  -- The word of a chapter and a folio says where its route comes from.
  came_from_lem : (k o : ℕ) → k < n → (1 ≤ o) × (o ≤ 2) → ComesFrom h f gs k o (came_from from k o)
  came_from_lem k o l range =
      elim (ℕ_discrete o 1) [
        | yes e ↦
            let at : 2 * k ≡ 2 * k + o - 1 = omega arith in
            subst (λ (p : ℕ). ComesFrom h f gs k p (get_or from (2 * k + o - 1) 0)) (sym e) (subst (λ (j : ℕ). ComesFrom h f gs k 1 (get_or from j 0)) at (is.first k l))
        | no ne ↦
            let e : o ≡ 2 = omega (arith, range.0, range.1) in
            let at : 2 * k + 1 ≡ 2 * k + o - 1 = omega arith in
            subst (λ (p : ℕ). ComesFrom h f gs k p (get_or from (2 * k + o - 1) 0)) (sym e) (subst (λ (j : ℕ). ComesFrom h f gs k 2 (get_or from j 0)) at (is.second k l))
      ]

  pub follow_route : (k : ℕ) → k ≤ n → (o : ℕ) (r : theorems.Route) → route h f (before gs k) o ≡ some r
      → Leads from k o × ((after : List ℕ) → followed from k o after ≡ reverse_aux r.folios (o ∷ after))
  unfolding Leads followed
  follow_route zero l o r e =
      let none : r.folios ≡ [] = first_folios h f o r e in
      (route_range h f [] o r e, λ after. ap (λ fs. reverse_aux fs (o ∷ after)) (sym none))
  follow_route (suc k) l o r e =
      let (g, there, same) = before_suc gs k (omega (arith, is.few)) in
      let e' : route h f (g ∷ before gs k) o ≡ some r = ap (λ rs. route h f rs o) (sym same) ∙ e in
      let range = route_range h f (g ∷ before gs k) o r e' in
      let on = route_onward h f g (before gs k) o r e' in
      let word : came_from from k o ≡ comes_from h f g (before gs k) o = came_from_lem k o (omega arith) range g r there e' in
      let rest =
      follow_route k (omega arith) (came_from from k o) on.before (ap (route h f (before gs k)) word ∙ on.was) in (
        (range.0, range.1, rest.0),
        λ after.
            rest.1 (o ∷ after)
            ∙ ap (λ p. reverse_aux on.before.folios (p ∷ (o ∷ after))) word
            ∙ ap (λ fs. reverse_aux fs (o ∷ after)) (sym on.folios),
      )
