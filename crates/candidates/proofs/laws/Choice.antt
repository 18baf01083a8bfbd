-- The better of the best of each part is the best of the whole.
use Rattle.std.specs.Prelude.{ℕ, ◌<◌, ◌≡◌, ◌⊎◌, Bool, not, ◌&&◌, ◌||◌, ltb, leb, eqb, None, Some}
use Rattle.std.proofs.Common.{arith, sym, inl, inr}
use Rattle.std.proofs.Math.Path.{refl}
use Rattle.std.proofs.Math.Logic.{⊎_swap}
use Rattle.std.proofs.Math.Bool.{true, false}
use borrow.Author.Tests.{eqb-true, eqb-false, ltb-true, ltb-false, leb-true, leb-false, lt-ltb, le-ltb}
use Rattle.model.specs.Gather.{pick}
use Rattle.model.proofs.laws.Gather.{and_left, and_right, or_cases}
use Rattle.places.specs.declared.Place.{Place}
use Rattle.places.specs.Entry.{Entry, least}
use Rattle.places.specs.Order.{NoLater}
use Rattle.places.specs.Best.{Leads, Best}
use Rattle.places.proofs.laws.Best.{leads_trans, best_as}
use Rattle.candidates.specs.Better.{no_later, wins, chosen}

-- The test says which of two starts is no later.
no_later_true : (r s : Place) → no_later r s ≡ true → NoLater s.line s.column r.line r.column
no_later_true r s t = go (or_cases (ltb s.line r.line) (eqb s.line r.line && leb s.column r.column) t)
  where
    go : (ltb s.line r.line ≡ true) ⊎ ((eqb s.line r.line && leb s.column r.column) ≡ true)
        → NoLater s.line s.column r.line r.column
    go (inl h) = inl (ltb-true s.line r.line h)
    go (inr h) =
        inr (
          eqb-true s.line r.line (and_left (eqb s.line r.line) (leb s.column r.column) h),
          leb-true s.column r.column (and_right (eqb s.line r.line) (leb s.column r.column) h),
        )

no_later_false : (r s : Place) → no_later r s ≡ false → NoLater r.line r.column s.line s.column
no_later_false r s t =
    go (ltb s.line r.line) (eqb s.line r.line) (leb s.column r.column) refl refl refl t
  where
    impossible : ◌≡◌ {A = Bool} true false → NoLater r.line r.column s.line s.column
    impossible h = let z : ◌≡◌ {A = ℕ} 0 1 = cc in absurd (omega arith)

    go : (x y z : Bool) → ltb s.line r.line ≡ x → eqb s.line r.line ≡ y → leb s.column r.column ≡ z
        → (x || (y && z)) ≡ false → NoLater r.line r.column s.line s.column
    go true y z p q o t = impossible t
    go false true true p q o t = impossible t
    go false true false p q o t =
        let e = eqb-true s.line r.line q in
        let l = leb-false s.column r.column o in
        inr (sym e, omega arith)
    go false false z p q o t =
        let l = ltb-false s.line r.line p in
        let n = eqb-false s.line r.line q in
        inl (omega arith)

-- After a later line the second start is the better unless it is dearer.
module _ (x y : ℕ) (s r : Place) (later : s.line < r.line) where
  pub later_left_behind : ltb x y ≡ true → chosen (least x s) (least y r) ≡ least x s
  unfolding chosen wins
  later_left_behind t = rw (t, le-ltb y x (omega (arith, ltb-true x y t))) refl

  pub later_taken : ltb x y ≡ false → chosen (least x s) (least y r) ≡ least y r
  unfolding chosen wins
  later_taken t = rw (t, lt-ltb s.line r.line later) (go (ltb y x))
    where
      go : (b : Bool) → pick (b || true) (least y r) (least x s) ≡ least y r
      go true = refl
      go false = refl

module _ {C D E : ℕ → ℕ → ℕ → Type 0} (left : (a b x : ℕ) → C a b x → E a b x) (right : (a b x : ℕ) → D a b x → E a b x)
    (split : (a b x : ℕ) → E a b x → C a b x ⊎ D a b x) where
  -- The best of C is the best of both where it leads the best of D.
  leader : (x y : ℕ) (r q : Place) → Best C (least x r) → Best D (least y q) → Leads (least x r) q.line q.column y
      → Best E (least x r)
  leader x y r q h k ahead =
      record {
        may = λ z t e. left t.line t.column z (h.may z t e);
        leads = λ a b z e. go a b z (split a b z e);
      }
    where
      go : (a b z : ℕ) → C a b z ⊎ D a b z → Leads (least x r) a b z
      go a b z (inl c) = h.leads a b z c
      go a b z (inr d) = leads_trans (least x r) y q a b z ahead (k.leads a b z d)

-- Of two reached entries the better one is.
module _ {C D E : ℕ → ℕ → ℕ → Type 0} (left : (a b x : ℕ) → C a b x → E a b x) (right : (a b x : ℕ) → D a b x → E a b x)
    (split : (a b x : ℕ) → E a b x → C a b x ⊎ D a b x) where
  best_two : (x y : ℕ) (q r : Place) → Best C (least x q) → Best D (least y r) → Best E (chosen (least x q) (least y r))
  unfolding chosen wins Leads
  best_two x y q r h k = go (ltb y x) (ltb x y) (no_later r q) refl refl refl
    where
      first : Leads (least x q) r.line r.column y → Best E (least x q)
      first l = leader left right split x y q r h k l

      second : Leads (least y r) q.line q.column x → Best E (least y r)
      second l = leader right left (λ a b z t. ⊎_swap (split a b z t)) y x r q k h l

      go : (l m n : Bool) → ltb y x ≡ l → ltb x y ≡ m → no_later r q ≡ n → Best E (pick (l || (not m && n)) (least y r) (least x q))
      go true m n p o t = let less = ltb-true y x p in second (omega arith, λ e. absurd (omega arith))
      go false true n p o t = let more = ltb-true x y o in first (omega arith, λ e. absurd (omega arith))
      go false false true p o t =
          let a = ltb-false y x p in
          let b = ltb-false x y o in
          second (omega arith, λ _. no_later_true r q t)
      go false false false p o t =
          let a = ltb-false y x p in
          let b = ltb-false x y o in
          first (omega arith, λ _. no_later_false r q t)

-- Of two parts the better best is the best.
pub best_chosen : {C D E : ℕ → ℕ → ℕ → Type 0} → ((a b x : ℕ) → C a b x → E a b x) → ((a b x : ℕ) → D a b x → E a b x)
    → ((a b x : ℕ) → E a b x → C a b x ⊎ D a b x) → (e f : Entry) → Best C e → Best D f → Best E (chosen e f)
unfolding chosen wins Leads
best_chosen {C} {D} {E} left right split e None h k = best_as left (λ a b x p. go a b x (split a b x p)) h
  where
    go : (a b x : ℕ) → C a b x ⊎ D a b x → C a b x
    go a b x (inl c) = c
    go a b x (inr d) = absurd (k.leads a b x d)
best_chosen {C} {D} {E} left right split None (Some l) h k = best_as right (λ a b x p. go a b x (split a b x p)) k
  where
    go : (a b x : ℕ) → C a b x ⊎ D a b x → D a b x
    go a b x (inl c) = absurd (h.leads a b x c)
    go a b x (inr d) = d
best_chosen {C} {D} {E} left right split (Some l) (Some n) h k = best_two left right split l.cost n.cost l.start n.start h k
