-- Orders that are total and transitive, and stay so when they are combined; the order of preference is one, and takes two valid
-- lists as equal only where they are the same.
use Rattle.std.specs.Prelude.{ℕ, suc, ◌≤◌, ◌⊎◌, Bool, ◌&&◌, leb}
use Rattle.std.proofs.Common.{le_trans, le_antisymm, sym, ◌∙◌, ap, leb-true, le-leb}
use Rattle.std.proofs.Math.Decide.{dec_le}
use native.Mathlib.Omega.{arith}
use Rattle.std.proofs.Math.Path.{◌≡◌, refl}
use Rattle.std.proofs.Math.Logic.{inl, inr}
use Rattle.std.proofs.Math.Bool.{true, false}
use mathlib.Core.List.{List, [], ◌∷◌, reverse, reverse_aux, reverse-reverse, tail-eq_of_cons-eq}
use Rattle.model.specs.Gather.{implies}
use Rattle.model.specs.Galley.{Galley, Place, zeros, sizes}
use Rattle.model.specs.Answers.{ended}
use Rattle.model.specs.Order.{then_by, by, lex, geb, starts_of, before}
use Rattle.model.specs.Best.{Allowed, allowed}
use Rattle.model.proofs.laws.Gather.{and_left, and_right, and_both, implies_at, implies_of}
use Rattle.model.specs.laws.Judge.{accepts}
use Rattle.model.proofs.laws.Valid.{Accepted, same_true}

-- Of any two one comes no later than the other, and what comes before an earlier one comes before a later one.
pub record Preference {A : Type 0} (le : A → A → Bool) : Type 0 where
  pub total : (x y : A) → (le x y ≡ true) ⊎ (le y x ≡ true)
  pub trans : (x y z : A) → le x y ≡ true → le y z ≡ true → le x z ≡ true

-- Whatever is compared with itself comes no later.
pub preference_refl : {A : Type 0} {le : A → A → Bool} → Preference le → (x : A) → le x x ≡ true
preference_refl {le = le} o x = go (o.total x x)
  where
    go : (le x x ≡ true) ⊎ (le x x ≡ true) → le x x ≡ true
    go (inl h) = h
    go (inr h) = h

pub leb_preference : Preference leb
leb_preference =
    record {
      total = λ x y. go x y (dec_le x y);
      trans = λ x y z p q. le-leb x z (le_trans (leb-true x y p) (leb-true y z q));
    }
  where
    go : (x y : ℕ) → Dec (x ≤ y) → (leb x y ≡ true) ⊎ (leb y x ≡ true)
    go x y (yes h) = inl (le-leb x y h)
    go x y (no h) = inr (le-leb y x (omega arith))

pub geb_preference : Preference geb
unfolding geb
geb_preference =
    record { total = λ x y. leb_preference.total y x; trans = λ x y z p q. leb_preference.trans z y x q p }

pub by_preference : {A B : Type 0} (f : A → B) (le : B → B → Bool) → Preference le → Preference (by f le)
unfolding by
by_preference f le o = record { total = λ x y. o.total (f x) (f y); trans = λ x y z. o.trans (f x) (f y) (f z) }

module _ {A : Type 0} where
  pub then_by_preference : (a b : A → A → Bool) → Preference a → Preference b → Preference (then_by a b)
  unfolding then_by
  then_by_preference a b o p = record { total = λ x y. whole x y (a x y) (a y x) refl refl; trans = follows }
    where
      whole : (x y : A) (s t : Bool) → a x y ≡ s → a y x ≡ t
          → (a x y && implies (a y x) (b x y) ≡ true) ⊎ (a y x && implies (a x y) (b y x) ≡ true)
      whole x y true true e f = simp (e, f) (p.total x y)
      whole x y true false e f = inl (simp (e, f))
      whole x y false true e f = inr (simp (e, f))
      whole x y false false e f = absurd (neither (o.total x y))
        where
          neither : (a x y ≡ true) ⊎ (a y x ≡ true) → ⊥
          neither (inl h) = let z : ◌≡◌ {A = ℕ} 0 1 = cc in omega arith
          neither (inr h) = let z : ◌≡◌ {A = ℕ} 0 1 = cc in omega arith

      follows : (x y z : A) → a x y && implies (a y x) (b x y) ≡ true → a y z && implies (a z y) (b y z) ≡ true
          → a x z && implies (a z x) (b x z) ≡ true
      follows x y z h k =
          let xy = and_left (a x y) (implies (a y x) (b x y)) h in
          let yz = and_left (a y z) (implies (a z y) (b y z)) k in
          and_both (o.trans x y z xy yz)
          (implies_of (a z x) (b x z)
          (λ zx.
          p.trans x y z
          (implies_at (a y x) (b x y) (and_right (a x y) (implies (a y x) (b x y)) h) (o.trans y z x yz zx))
          (implies_at (a z y) (b y z) (and_right (a y z) (implies (a z y) (b y z)) k) (o.trans z x y zx xy))))

  -- Two that each come before the other are equal to both orders.
  pub then_by_last : (a b : A → A → Bool) (x y : A) → then_by a b x y ≡ true → then_by a b y x ≡ true → b x y ≡ true
  unfolding then_by
  then_by_last a b x y h k =
      implies_at (a y x) (b x y) (and_right (a x y) (implies (a y x) (b x y)) h) (and_left (a y x) (implies (a x y) (b y x)) k)

  lex_total : (le : A → A → Bool) → Preference le → (xs ys : List A) → (lex le xs ys ≡ true) ⊎ (lex le ys xs ≡ true)
  unfolding lex
  lex_total le o [] ys = inl refl
  lex_total le o (x ∷ xs) [] = inr refl
  lex_total le o (x ∷ xs) (y ∷ ys) = go (le x y) (le y x) refl refl (lex_total le o xs ys)
    where
      go : (s t : Bool) → le x y ≡ s → le y x ≡ t → (lex le xs ys ≡ true) ⊎ (lex le ys xs ≡ true)
          → (le x y && implies (le y x) (lex le xs ys) ≡ true) ⊎ (le y x && implies (le x y) (lex le ys xs) ≡ true)
      go true true e f r = simp (e, f) r
      go true false e f r = inl (simp (e, f))
      go false true e f r = inr (simp (e, f))
      go false false e f r = absurd (neither (o.total x y) e f)
        where
          neither : (le x y ≡ true) ⊎ (le y x ≡ true) → le x y ≡ false → le y x ≡ false → ⊥
          neither (inl h) e f = let z : ◌≡◌ {A = ℕ} 0 1 = cc in omega arith
          neither (inr h) e f = let z : ◌≡◌ {A = ℕ} 0 1 = cc in omega arith

  lex_trans : (le : A → A → Bool) → Preference le → (xs ys zs : List A) → lex le xs ys ≡ true → lex le ys zs ≡ true
      → lex le xs zs ≡ true
  unfolding lex
  lex_trans le o [] ys zs h k = refl
  lex_trans le o (x ∷ xs) [] zs h k = let z : ◌≡◌ {A = ℕ} 0 1 = cc in absurd (omega arith)
  lex_trans le o (x ∷ xs) (y ∷ ys) [] h k = k
  lex_trans le o (x ∷ xs) (y ∷ ys) (z ∷ zs) h k =
      let xy = and_left (le x y) (implies (le y x) (lex le xs ys)) h in
      let yz = and_left (le y z) (implies (le z y) (lex le ys zs)) k in
      and_both (o.trans x y z xy yz)
      (implies_of (le z x) (lex le xs zs)
      (λ zx.
      lex_trans le o xs ys zs
      (implies_at (le y x) (lex le xs ys) (and_right (le x y) (implies (le y x) (lex le xs ys)) h) (o.trans y z x yz zx))
      (implies_at (le z y) (lex le ys zs) (and_right (le y z) (implies (le z y) (lex le ys zs)) k) (o.trans z x y zx xy))))

  pub lex_preference : (le : A → A → Bool) → Preference le → Preference (lex le)
  lex_preference le o = record { total = lex_total le o; trans = lex_trans le o }

  -- Two lists that each come before the other are the same, where that is so of their entries.
  pub lex_antisymm : (le : A → A → Bool) → ((x y : A) → le x y ≡ true → le y x ≡ true → x ≡ y) → (xs ys : List A)
      → lex le xs ys ≡ true → lex le ys xs ≡ true → xs ≡ ys
  unfolding lex
  lex_antisymm le anti [] [] h k = refl
  lex_antisymm le anti [] (y ∷ ys) h k = let z : ◌≡◌ {A = ℕ} 0 1 = cc in absurd (omega arith)
  lex_antisymm le anti (x ∷ xs) [] h k = let z : ◌≡◌ {A = ℕ} 0 1 = cc in absurd (omega arith)
  lex_antisymm le anti (x ∷ xs) (y ∷ ys) h k =
      let xy = and_left (le x y) (implies (le y x) (lex le xs ys)) h in
      let yx = and_left (le y x) (implies (le x y) (lex le ys xs)) k in
      let e = anti x y xy yx in
      let t =
      lex_antisymm le anti xs ys
      (implies_at (le y x) (lex le xs ys) (and_right (le x y) (implies (le y x) (lex le xs ys)) h) yx)
      (implies_at (le x y) (lex le ys xs) (and_right (le y x) (implies (le x y) (lex le ys xs)) k) xy) in
      cc

pub geb_antisymm : (x y : ℕ) → geb x y ≡ true → geb y x ≡ true → x ≡ y
unfolding geb
geb_antisymm x y h k = le_antisymm (leb-true x y k) (leb-true y x h)

-- The full place before the starts of a list that reaches it is the list backwards, with the place that it set out from.
starts_reverse : (ok : Allowed) (l : Place) (q : ℕ) (u : Place) (ps after : List Place) → accepts ok l q u ps ≡ true
    → l ∷ starts_of u ps after ≡ reverse_aux (u ∷ ps) after
unfolding accepts starts_of
starts_reverse ok l q u [] after h = ap (λ x. x ∷ after) (sym (same_true u l h))
starts_reverse ok l q u (v ∷ vs) after h =
    starts_reverse ok l (suc q) v vs (u ∷ after) (and_right (ok q (ended vs) u v) (accepts ok l (suc q) v vs) h)

module _ (g : Galley) where
  -- The order of preference is total and transitive, as are the orders that it is put together from.
  pub before_preference : Preference (before g)
  unfolding before
  before_preference = search (leb_preference, geb_preference, by_preference, lex_preference, then_by_preference) depth 9

  -- Two accepted lists with the same starts are the same list.
  pub starts_same : (ps qs : List Place) → Accepted g ps → Accepted g qs → starts_of (zeros g) ps [] ≡ starts_of (zeros g) qs [] → ps ≡ qs
  starts_same ps qs a b starts =
      let back : reverse (zeros g ∷ ps) ≡ reverse (zeros g ∷ qs) =
      sym (starts_reverse (allowed g) (sizes g) 1 (zeros g) ps [] a.taken)
      ∙ ap (λ r. sizes g ∷ r) starts
      ∙ starts_reverse (allowed g) (sizes g) 1 (zeros g) qs [] b.taken in
      tail-eq_of_cons-eq (sym (reverse-reverse (zeros g ∷ ps)) ∙ ap reverse back ∙ reverse-reverse (zeros g ∷ qs))

  -- Two accepted lists that each come before the other are the same list.
  pub before_antisymm : (ps qs : List Place) → Accepted g ps → Accepted g qs → before g ps qs ≡ true → before g qs ps ≡ true → ps ≡ qs
  unfolding before by
  before_antisymm ps qs a b h k =
      let h' = then_by_last _ _ ps qs h k in
      let k' = then_by_last _ _ qs ps k h in
      let h'' = then_by_last _ _ ps qs h' k' in
      let k'' = then_by_last _ _ qs ps k' h' in
      let h''' = then_by_last _ _ ps qs h'' k'' in
      let k''' = then_by_last _ _ qs ps k'' h'' in
      starts_same ps qs a b
      (lex_antisymm _ (search (lex_antisymm, geb_antisymm)) (starts_of (zeros g) ps []) (starts_of (zeros g) qs []) h''' k''')
