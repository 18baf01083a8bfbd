-- The order of choices is total and transitive, and its ties are the same only where they are equal; and what is gathered.
use Rattle.std.specs.Prelude.{ℕ, ◌≡◌, true, ◌⊎◌, leb}
use Rattle.std.proofs.Common.{le_antisymm, inl, inr, leb-true}
use Rattle.std.proofs.Math.Path.{refl}
use mathlib.Core.List.Memᴰ
use mathlib.Core.List.{List, [], ◌∷◌, ◌++◌}
use Rattle.model.specs.Galley.{Galley}
use Rattle.model.specs.Order.{then_by, by, lex, geb}
use Rattle.model.specs.Book.{gathered, Tie, tie_order, book_before}
use Rattle.model.proofs.laws.Gather.{and_left}
use Rattle.model.specs.laws.Lists.{◌∈◌}
use Rattle.model.proofs.laws.Order.{Preference, leb_preference, geb_preference, by_preference, then_by_preference, then_by_last, lex_preference, lex_antisymm, geb_antisymm}

module _ {A B : Type 0} (f : A → List B) where
  -- What is gathered is what each has,
  pub ∈-gathered : (x : A) (y : B) (xs : List A) → x ∈ xs → y ∈ f x → y ∈ gathered f xs
  unfolding gathered
  ∈-gathered x y [] m n = absurd (Memᴰ.not-nil m)
  ∈-gathered x y (w ∷ xs) m n = go (Memᴰ.cases_cons m) (λ k. ∈-gathered x y xs k n)
    where
      go : (x ≡ w) ⊎ (x ∈ xs) → (x ∈ xs → y ∈ gathered f xs) → y ∈ (f w ++ gathered f xs)
      go (inl e) rest = Memᴰ.append_left (gathered f xs) (rw e at n)
      go (inr k) rest = Memᴰ.append_right (f w) (rest k)

  -- and nothing else.
  pub ∈-ungathered : (y : B) (xs : List A) → y ∈ gathered f xs → (x : A) × (x ∈ xs) × (y ∈ f x)
  unfolding gathered
  ∈-ungathered y [] m = absurd (Memᴰ.not-nil m)
  ∈-ungathered y (w ∷ xs) m = go (Memᴰ.append_cases (f w) m) (∈-ungathered y xs)
    where
      go : (y ∈ f w) ⊎ (y ∈ gathered f xs) → (y ∈ gathered f xs → (x : A) × (x ∈ xs) × (y ∈ f x))
          → (x : A) × (x ∈ (w ∷ xs)) × (y ∈ f x)
      go (inl k) rest = (w, Memᴰ.head refl, k)
      go (inr k) rest = let (x, i, j) = rest k in (x, Memᴰ.tail i, j)

-- A galley's tie order is total and transitive,
pub tie_preference : Preference tie_order
unfolding tie_order
tie_preference = search (leb_preference, geb_preference, by_preference, lex_preference, then_by_preference) depth 9

-- and takes two as equal only where they are the same.
pub tie_antisymm : (t u : Tie) → tie_order t u ≡ true → tie_order u t ≡ true → t ≡ u
unfolding tie_order by then_by
tie_antisymm (a, xs) (b, ys) h k =
    let odd : a ≡ b = le_antisymm (leb-true a b (and_left (leb a b) _ h)) (leb-true b a (and_left (leb b a) _ k)) in
    let h' = then_by_last {A = Tie} (by (λ t. t.0) leb) (by (λ t. t.1) (lex (lex geb))) (a, xs) (b, ys) h k in
    let k' = then_by_last {A = Tie} (by (λ t. t.0) leb) (by (λ t. t.1) (lex (lex geb))) (b, ys) (a, xs) k h in
    let starts : xs ≡ ys = lex_antisymm _ (search (lex_antisymm, geb_antisymm)) xs ys h' k' in
    cc

-- The order of choices is total and transitive.
pub book_preference : (f : ℕ) (gs : List Galley) → Preference (book_before f gs)
unfolding book_before
book_preference f gs = search (leb_preference, tie_preference, by_preference, lex_preference, then_by_preference) depth 9
