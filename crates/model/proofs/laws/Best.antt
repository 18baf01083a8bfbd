-- The best list is a valid list that comes before every other, it is the only one, and there is none only where no list is valid.
use Rattle.std.specs.Prelude.{ℕ, ◌≤◌, ◌≡◌, ◌⊎◌, Bool, true, false, leb}
use Rattle.std.proofs.Common.{arith, sym, ap, inl, inr, leb-true, le-leb}
use Rattle.std.proofs.Math.Path.{refl, subst}
use mathlib.Core.List.Memᴰ
use mathlib.Core.List.{List, [], ◌∷◌}
use Rattle.std.proofs.Math.Option.{Option, none, some}
use Rattle.model.specs.Gather.{pick, implies}
use Rattle.model.specs.Galley.{Galley, Place}
use Rattle.model.specs.Turns.{turns}
use Rattle.model.specs.White.{white}
use Rattle.model.specs.Order.{then_by, by, before}
use Rattle.model.specs.Best.{valid, first_of, best}
use Rattle.model.proofs.laws.Gather.{and_left, and_right, implies_at}
use Rattle.model.specs.laws.Lists.{◌∈◌}
use Rattle.model.proofs.laws.Valid.{Accepted, valid_accepted}
use Rattle.model.proofs.laws.Order.{Preference, preference_refl, before_preference, before_antisymm}

module _ {A : Type 0} (le : A → A → Bool) (o : Preference le) where
  -- x is in the list and comes before all that is in it.
  pub record First (x : A) (xs : List A) : Type 0 where
    pub among : x ∈ xs
    pub ahead : (y : A) → y ∈ xs → le x y ≡ true

  alone : (x : A) → First x (x ∷ [])
  alone x = record { among = Memᴰ.head refl; ahead = λ y m. go y (Memᴰ.cases_cons m) }
    where
      go : (y : A) → (y ≡ x) ⊎ (y ∈ []) → le x y ≡ true
      go y (inl e) = rw e (preference_refl o x)
      go y (inr m) = absurd (Memᴰ.not-nil m)

  other_way : (x y : A) → le x y ≡ false → le y x ≡ true
  other_way x y e = go (o.total x y)
    where
      go : (le x y ≡ true) ⊎ (le y x ≡ true) → le y x ≡ true
      go (inl h) = let z : ◌≡◌ {A = ℕ} 0 1 = cc in absurd (omega arith)
      go (inr h) = h

  -- The first of one more is the better of it and the first of the others.
  better : (x y : A) (xs : List A) → First y xs → First (pick (le x y) x y) (x ∷ xs)
  better x y xs f = go (le x y) refl
    where
      x_first : le x y ≡ true → (w : A) → (w ≡ x) ⊎ (w ∈ xs) → le x w ≡ true
      x_first h w (inl e) = rw e (preference_refl o x)
      x_first h w (inr m) = o.trans x y w h (f.ahead w m)

      y_first : le x y ≡ false → (w : A) → (w ≡ x) ⊎ (w ∈ xs) → le y w ≡ true
      y_first h w (inl e) = rw e (other_way x y h)
      y_first h w (inr m) = f.ahead w m

      go : (b : Bool) → le x y ≡ b → First (pick b x y) (x ∷ xs)
      go true h = record { among = Memᴰ.head refl; ahead = λ w m. x_first h w (Memᴰ.cases_cons m) }
      go false h = record { among = Memᴰ.tail f.among; ahead = λ w m. y_first h w (Memᴰ.cases_cons m) }

  -- What `first_of` finds: nothing in an empty list, else a first.
  pub data Found (xs : List A) : Option A → Type 0 where
    nothing : xs ≡ [] → Found xs none
    found : {x : A} → First x xs → Found xs (some x)

  pub first_of_found : (xs : List A) → Found xs (first_of le xs)
  unfolding first_of
  first_of_found [] = nothing refl
  first_of_found (x ∷ xs) = go (first_of le xs) (first_of_found xs)
    where
      nil : xs ≡ [] → First x (x ∷ xs)
      nil e = subst (λ ys. First x (x ∷ ys)) (sym e) (alone x)

      go : (r : Option A) → Found xs r → Found (x ∷ xs) (elim r [ none ↦ some x | some y ↦ some (pick (le x y) x y) ])
      go none (nothing e) = found (nil e)
      go (some y) (found f) = found (better x y xs f)

  -- Whoever has the only first has what is found,
  pub first_of_is : (xs : List A) (x : A) → First x xs → ((y : A) → First y xs → y ≡ x) → first_of le xs ≡ some x
  first_of_is xs x f only = go (first_of le xs) (first_of_found xs)
    where
      go : (r : Option A) → Found xs r → r ≡ some x
      go none (nothing e) = absurd (Memᴰ.not-nil (subst (λ l. x ∈ l) e f.among))
      go (some y) (found h) = ap some (only y h)

  -- and whoever shows that there is none has that nothing is found.
  pub first_of_none : (xs : List A) → ((x : A) → x ∈ xs → ⊥) → first_of le xs ≡ none
  first_of_none xs empty = go (first_of le xs) (first_of_found xs)
    where
      go : (r : Option A) → Found xs r → r ≡ none
      go none h = refl
      go (some y) (found h) = absurd (empty y h.among)

-- ps is the first of some lists by the order of preference.
pub record LeastOf (g : Galley) (all : List (List Place)) (ps : List Place) : Type 0 where
  pub lawful : ps ∈ all
  pub ahead : (qs : List Place) → qs ∈ all → before g ps qs ≡ true

-- None of them has fewer turns than the least.
pub least_turns : (g : Galley) {all : List (List Place)} (ps qs : List Place) → LeastOf g all ps → qs ∈ all → turns g ps ≤ turns g qs
unfolding before then_by by
least_turns g ps qs a m = leb-true (turns g ps) (turns g qs) (and_left (leb (turns g ps) (turns g qs)) _ (a.ahead qs m))

-- Of those with no more turns none has less white.
pub least_white : (g : Galley) {all : List (List Place)} (ps qs : List Place) → LeastOf g all ps → qs ∈ all → turns g qs ≤ turns g ps
    → white g ps ≤ white g qs
unfolding before then_by by
least_white g ps qs a m l =
    let rest = and_right (leb (turns g ps) (turns g qs)) (implies (leb (turns g qs) (turns g ps)) _) (a.ahead qs m) in
    let next = implies_at (leb (turns g qs) (turns g ps)) _ rest (le-leb (turns g qs) (turns g ps) l) in
    leb-true (white g ps) (white g qs) (and_left (leb (white g ps) (white g qs)) _ next)

-- Of some lists there is none, or the first is the least one.
pub data MakesOf (g : Galley) (all : List (List Place)) : Option (List Place) → Type 0 where
  impossible : ((ps : List Place) → ps ∈ all → ⊥) → MakesOf g all none
  makes : {ps : List Place} → LeastOf g all ps → MakesOf g all (some ps)

-- Lists that the rules accept.
module _ (g : Galley) (all : List (List Place)) (sound : (ps : List Place) → ps ∈ all → Accepted g ps) where
  -- The least list is one only.
  least_unique : (ps qs : List Place) → LeastOf g all ps → LeastOf g all qs → ps ≡ qs
  least_unique ps qs a b =
      before_antisymm g ps qs (sound ps a.lawful) (sound qs b.lawful) (a.ahead qs b.lawful) (b.ahead ps a.lawful)

  pub first_makes : MakesOf g all (first_of (before g) all)
  first_makes = go (first_of (before g) all) (first_of_found (before g) (before_preference g) all)
    where
      go : (r : Option (List Place)) → Found (before g) (before_preference g) all r → MakesOf g all r
      go none (nothing e) = impossible (λ ps m. Memᴰ.not-nil (subst (λ l. ps ∈ l) e m))
      go (some ps) (found f) = makes (record { lawful = f.among; ahead = f.ahead })

  -- Whoever has the least list has the first,
  pub first_is : (ps : List Place) → LeastOf g all ps → first_of (before g) all ≡ some ps
  first_is ps a =
      first_of_is (before g) (before_preference g) all ps (record { among = a.lawful; ahead = a.ahead })
      (λ qs f. least_unique qs ps (record { lawful = f.among; ahead = f.ahead }) a)

  -- and whoever shows that there is no list has that there is no first.
  pub first_none : ((ps : List Place) → ps ∈ all → ⊥) → first_of (before g) all ≡ none
  first_none = first_of_none (before g) (before_preference g) all

module _ (g : Galley) where
  -- ps is a valid list that no valid list comes before.
  abbrev pub Least : List Place → Type 0
  Least = LeastOf g (valid g)

  -- What making means: no list is valid, or the best list is the least one.
  abbrev pub Makes : Option (List Place) → Type 0
  Makes = MakesOf g (valid g)

  pub best_makes : Makes (best g)
  unfolding best
  best_makes = first_makes g (valid g) (λ ps. (valid_accepted g ps).0)
