-- Sums over lists and over all places of a box, and products.
use Rattle.std.specs.Prelude.{ℕ, zero, suc, ◌+◌, ◌-◌, ◌*◌, ◌≤◌, ◌<◌, ◌≡◌, refl, Bool, true, false}
use Rattle.std.proofs.Common.{suc-mul, add-mul, zero-mul, ◌∙◌, ap}
use Rattle.std.proofs.Math.Nat.{mul-mul-mul_comm}
use native.Mathlib.Omega.{arith}
use mathlib.Core.List.Memᴰ
use mathlib.Core.List.{List, [], ◌∷◌, ◌++◌, map}
use Rattle.model.specs.Gather.{one, sum, total}
use Rattle.model.specs.Galley.{Place}
use Rattle.model.specs.Best.{prefixed, box}
use Rattle.model.specs.Weighed.{sum_of, product}
use Rattle.model.specs.laws.Lists.{◌∈◌}
use Rattle.model.specs.laws.Boxes.{below}

pub below_ext : (n : ℕ) (f h : ℕ → ℕ) → ((k : ℕ) → k < n → f k ≡ h k) → below n f ≡ below n h
unfolding below
below_ext zero f h e = refl
below_ext (suc n) f h e =
    let rest = below_ext n f h (λ k l. e k (omega arith)) in
    let last = e n (omega arith) in
    omega arith

pub below_add : (n d : ℕ) (f : ℕ → ℕ) → below (n + d) f ≡ below n f + below d (λ k. f (n + k))
unfolding below
below_add n zero f = let e : n + 0 ≡ n = omega arith in rw e (omega arith)
below_add n (suc d) f = let e : n + suc d ≡ suc (n + d) = omega arith in let rest = below_add n d f in rw e (omega arith)

below_none : (n : ℕ) → below n (λ k. 0) ≡ 0
unfolding below
below_none zero = refl
below_none (suc n) = let rest = below_none n in omega arith

below_ones : (n : ℕ) → below n (λ k. 1) ≡ n
unfolding below
below_ones zero = refl
below_ones (suc n) = let rest = below_ones n in omega arith

pub total_below : (n : ℕ) (f : ℕ → ℕ) → total n f ≡ below (suc n) f
unfolding total sum below
total_below zero f = omega arith
total_below (suc n) f = let rest = total_below n f in omega arith

-- A test that holds from `low` on and before `high`, and nowhere else, holds so often.
pub width : (n low high : ℕ) (test : ℕ → Bool) → low ≤ high → high ≤ suc n → ((k : ℕ) → k < low → test k ≡ false)
    → ((k : ℕ) → low ≤ k → k < high → test k ≡ true) → ((k : ℕ) → high ≤ k → k ≤ n → test k ≡ false)
    → total n (λ k. one (test k)) ≡ high - low
width n low high test up top under inside over =
    let all : suc n ≡ low + ((high - low) + (suc n - high)) = omega arith in
    let first = below_add low ((high - low) + (suc n - high)) (λ k. one (test k)) in
    let second = below_add (high - low) (suc n - high) (λ k. one (test (low + k))) in
    let a = below_ext low (λ k. one (test k)) (λ k. 0) (λ k l. ap one (under k l)) in
    let b = below_ext (high - low) (λ k. one (test (low + k))) (λ k. 1) (λ k l. ap one (inside (low + k) (omega arith) (omega arith))) in
    let c =
    below_ext (suc n - high) (λ k. one (test (low + ((high - low) + k)))) (λ k. 0)
    (λ k l. ap one (over (low + ((high - low) + k)) (omega arith) (omega arith))) in
    let parts : below (suc n) (λ k. one (test k)) ≡ below (low + ((high - low) + (suc n - high))) (λ k. one (test k)) =
    ap (λ n. below n (λ k. one (test k))) all in
    omega (arith, total_below n (λ k. one (test k)), below_none low, below_ones (high - low), below_none (suc n - high))

-- Sums over lists.
module _ {A : Type 0} where
  pub sum_of_append : (f : A → ℕ) (xs ys : List A) → sum_of f (xs ++ ys) ≡ sum_of f xs + sum_of f ys
  unfolding sum_of
  sum_of_append f [] ys = omega arith
  sum_of_append f (x ∷ xs) ys = let rest = sum_of_append f xs ys in omega arith

  pub sum_of_le : (f h : A → ℕ) (xs : List A) → ((x : A) → x ∈ xs → f x ≤ h x) → sum_of f xs ≤ sum_of h xs
  unfolding sum_of
  sum_of_le f h [] le = omega arith
  sum_of_le f h (x ∷ xs) le =
      let rest = sum_of_le f h xs (λ y m. le y (Memᴰ.tail m)) in
      let here = le x (Memᴰ.head refl) in
      omega arith

pub sum_of_map : {A B : Type 0} (f : B → ℕ) (h : A → B) (xs : List A) → sum_of f (map h xs) ≡ sum_of (λ x. f (h x)) xs
unfolding sum_of
sum_of_map f h [] = refl
sum_of_map f h (x ∷ xs) = ap (λ n. f (h x) + n) (sum_of_map f h xs)

-- A sum over a box is a sum over its first count, of sums over the others.
sum_prefixed : (f : Place → ℕ) (n : ℕ) (vs : List Place) → sum_of f (prefixed n vs) ≡ total n (λ k. sum_of (λ v. f (k ∷ v)) vs)
unfolding prefixed total sum
sum_prefixed f zero vs = let e = sum_of_map f (λ v. 0 ∷ v) vs in omega arith
sum_prefixed f (suc n) vs =
    let here = sum_of_map f (λ v. suc n ∷ v) vs in
    let rest = sum_prefixed f n vs in
    let both = sum_of_append f (map (λ v. suc n ∷ v) vs) (prefixed n vs) in
    omega arith

pub sum_box : (f : Place → ℕ) (n : ℕ) (ns : Place) → sum_of f (box (n ∷ ns)) ≡ total n (λ k. sum_of (λ v. f (k ∷ v)) (box ns))
unfolding box
sum_box f n ns = sum_prefixed f n (box ns)

pub total_mul : (n c : ℕ) (f : ℕ → ℕ) → total n (λ k. f k * c) ≡ total n f * c
unfolding total sum
total_mul zero c f = omega (arith, add-mul (f 0) 0 c, zero-mul c)
total_mul (suc n) c f =
    let rest = total_mul n c f in
    omega (arith, add-mul (f 0 + sum n f) (f (suc n)) c, add-mul (f 0) (sum n f + f (suc n)) c, add-mul (sum n f) (f (suc n)) c, add-mul (f 0) (sum n f) c)

pub total_same : (n c : ℕ) → total n (λ k. c) ≡ suc n * c
unfolding total sum
total_same zero c = omega arith
total_same (suc n) c = let rest = total_same n c in omega (arith, suc-mul (suc n) c, suc-mul n c)

pub product_mul : (a n : ℕ) (f h : ℕ → ℕ) → product a n (λ s. f s * h s) ≡ product a n f * product a n h
unfolding product
product_mul a zero f h = refl
product_mul a (suc n) f h = ap (λ r. f a * h a * r) (product_mul (suc a) n f h) ∙ mul-mul-mul_comm (f a) (h a) (product (suc a) n f) (product (suc a) n h)
