-- Chapter after chapter: the routes are those of the theorem, and each pair of words says where they come from.
use Rattle.std.specs.Prelude.{ℕ, zero, suc, ◌+◌, ◌*◌, ◌%◌, ◌≤◌, ◌<◌, ◌≡◌, refl, false, length, get_or, set, take, drop, eqb}
use Rattle.std.proofs.Math.Decide.{ℕ_discrete}
use Rattle.std.proofs.Common.{arith, sym, ◌∙◌, ap, subst, length-set, get_or-set_same, get_or-set_other, eq-eqb, ne_eqb}
use mathlib.Core.List.{List, [], ◌∷◌, reverse_aux}
use Rattle.std.proofs.Math.Option.{some}
use Rattle.model.specs.Galley as model
use Rattle.model.specs.Leaf.{sides_of}
use Rattle.model.specs.Book.{folio_in}
use Rattle.theorems.specs.books.Folios.{like}
use Rattle.theorems.specs.books.Turns.{no_chapter}
use Rattle.theorems.specs.books.Routes.{route}
use Rattle.theorems.specs.books.Engine.{comes_from}
use Rattle.galley.specs.declared.Galley.{Galley}
use Rattle.galley.specs.Model.{model_of}
use Rattle.routes.specs.declared.Routes.{Routes}
use Rattle.routes.specs.declared.Step.{Step}
use Rattle.routes.specs.Routes.{kept_of, first_routes, before, ComesFrom, Routed}
use Rattle.routes.specs.Next.{Arrives}

-- Before the first chapter the route to its folio is the theorem's.
pub first_right : (bytes : List ℕ) (g : Galley)
    → (let m = model_of bytes g in let f = folio_in m.spec.sides in
    ((first_routes g.spec.sides g.folio).one ≡ kept_of (route m f [] 1)) × ((first_routes g.spec.sides g.folio).two ≡ kept_of (route m f [] 2)))
unfolding route like folio_in sides_of
first_right bytes g = go (ℕ_discrete g.spec.sides 2) (ℕ_discrete (g.folio % 2) 0)
  where
    go : Dec (g.spec.sides ≡ 2) → Dec (g.folio % 2 ≡ 0)
        → (let m = model_of bytes g in let f = folio_in m.spec.sides in
        ((first_routes g.spec.sides g.folio).one ≡ kept_of (route m f [] 1)) × ((first_routes g.spec.sides g.folio).two ≡ kept_of (route m f [] 2)))
    go (no n) d = rw (ne_eqb g.spec.sides 2 n) (refl, refl)
    go (yes e) (yes z) = rw (eq-eqb g.spec.sides 2 e, eq-eqb (g.folio % 2) 0 z, z) (refl, refl)
    go (yes e) (no z) =
        let odd : g.folio % 2 ≡ 1 = omega arith in
        rw (eq-eqb g.spec.sides 2 e, ne_eqb (g.folio % 2) 0 z, odd) (refl, refl)

-- One chapter more stands before those that came before it.
before_next : (gs : List model.Galley) (k : ℕ) (g : model.Galley) (ds ys : List model.Galley) → drop k gs ≡ g ∷ ds
    → reverse_aux (take (suc k) gs) ys ≡ g ∷ reverse_aux (take k gs) ys
before_next gs zero g ds ys e = rw e refl
before_next [] (suc k) g ds ys e = let z : ◌≡◌ {A = ℕ} 0 (suc (length ds)) = ap length e in absurd (omega arith)
before_next (x ∷ xs) (suc k) g ds ys e = before_next xs k g ds (x ∷ ys) e

-- There is none before the first alone.
pub none_before : (gs : List model.Galley) (k : ℕ) → k ≤ length gs → no_chapter (before gs k) ≡ eqb k 0
none_before gs zero l = refl
none_before [] (suc k) l = absurd (omega arith)
none_before (x ∷ xs) (suc k) l = go (take k xs) [] ∙ sym (ne_eqb (suc k) 0 (λ e. omega arith))
  where
    go : (zs ys : List model.Galley) → no_chapter (reverse_aux zs (x ∷ ys)) ≡ false
    go zs ys = again zs x ys
      where
        again : (zs : List model.Galley) (x : model.Galley) (ys : List model.Galley) → no_chapter (reverse_aux zs (x ∷ ys)) ≡ false
        again [] x ys = refl
        again (z ∷ zs) x ys = again zs z (x ∷ ys)

-- Where the routes before chapter k are right, so are those after it.
module _ (h : model.Galley) (f : ℕ) (gs : List model.Galley) (k : ℕ) {routes : Routes} {from : List ℕ} (routed : Routed h f gs k routes from)
    (g : model.Galley) (ds : List model.Galley) (there : drop k gs ≡ g ∷ ds) (few : k < 200) (first second : Step)
    (one : Arrives h f g (before gs k) 1 first) (two : Arrives h f g (before gs k) 2 second) where
  -- The words kept for a chapter are those of its steps,
  abbrev words : List ℕ
  words = set (set from (2 * k) first.from) (2 * k + 1) second.from

  here : (next : ℕ) (word : ℕ) (s : Step) → Arrives h f g (before gs k) next s → word ≡ s.from → ComesFrom h f gs k next word
  here next word s a e d q is t =
      let same : d ≡ g = ap head (sym is ∙ ap (take 1) there) in
      e ∙ subst (λ (d : model.Galley). s.from ≡ comes_from h f d (before gs k) next) (sym same)
      (a.from q (subst (λ (d : model.Galley). route h f (d ∷ before gs k) next ≡ some q) same t))
    where
      head : List model.Galley → model.Galley
      head [] = g
      head (x ∷ xs) = x

  -- and those for earlier ones stay.
  earlier : (j : ℕ) → j < 2 * k → get_or words j 0 ≡ get_or from j 0
  earlier j l =
      get_or-set_other (set from (2 * k) first.from) (2 * k + 1) j second.from 0 (λ e. omega arith)
      ∙ get_or-set_other from (2 * k) j first.from 0 (λ e. omega arith)

  even : get_or words (2 * k) 0 ≡ first.from
  even =
      get_or-set_other (set from (2 * k) first.from) (2 * k + 1) (2 * k) second.from 0 (λ e. omega arith)
      ∙ get_or-set_same from (2 * k) first.from 0 (omega (arith, routed.long))

  odd : get_or words (2 * k + 1) 0 ≡ second.from
  odd =
      let long = length-set from (2 * k) first.from in
      get_or-set_same (set from (2 * k) first.from) (2 * k + 1) second.from 0 (omega (arith, routed.long))

  pub routed_next : {r : Routes} → r.one ≡ first.route → r.two ≡ second.route → k < length gs → Routed h f gs (suc k) r words
  routed_next e d more =
      let next = before_next gs k g ds [] there in
      record {
        few = omega arith;
        one = e ∙ one.best ∙ ap (λ rs. kept_of (route h f rs 1)) (sym next);
        two = d ∙ two.best ∙ ap (λ rs. kept_of (route h f rs 2)) (sym next);
        long = length-set (set from (2 * k) first.from) (2 * k + 1) second.from ∙ length-set from (2 * k) first.from ∙ routed.long;
        first = λ j l. step j l (ℕ_discrete j k);
        second = λ j l. other j l (ℕ_discrete j k);
      }
    where
      step : (j : ℕ) → j < suc k → Dec (j ≡ k) → ComesFrom h f gs j 1 (get_or words (2 * j) 0)
      step j l (yes e) = subst (λ j. ComesFrom h f gs j 1 (get_or words (2 * j) 0)) (sym e) (here 1 (get_or words (2 * k) 0) first one even)
      step j l (no n) = subst (ComesFrom h f gs j 1) (sym (earlier (2 * j) (omega arith))) (routed.first j (omega arith))

      other : (j : ℕ) → j < suc k → Dec (j ≡ k) → ComesFrom h f gs j 2 (get_or words (2 * j + 1) 0)
      other j l (yes e) = subst (λ j. ComesFrom h f gs j 2 (get_or words (2 * j + 1) 0)) (sym e) (here 2 (get_or words (2 * k + 1) 0) second two odd)
      other j l (no n) = subst (ComesFrom h f gs j 2) (sym (earlier (2 * j + 1) (omega arith))) (routed.second j (omega arith))
