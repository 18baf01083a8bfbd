-- The count of what is weighed never passes the ceiling: an end has in each stream no more starts before it than the most blocks that
-- stand together, and one.
use Prim.Native.Nat.{ℕ, zero, suc, ◌+◌, ◌-◌, ◌*◌, ◌≤◌, ◌<◌}
use Rattle.std.proofs.Common.{le_refl, le_of_eq, zero-add, mul-le-mul_left, mul-le-mul_right, mul_assoc, ◌∙◌}
use Rattle.std.proofs.Math.Nat.{le_trans}
use native.Mathlib.Omega.{arith}
use Rattle.std.specs.Prelude.{◌≡◌, Bool, ◌&&◌, length}
use Rattle.std.proofs.Math.Path.{refl, sym, ap, subst}
use Rattle.std.proofs.Math.Bool.{true, false}
use mathlib.Core.List.{List, [], ◌∷◌}
use Rattle.std.proofs.Math.ListN.{get_or}
use Rattle.std.proofs.Math.Dec.{leb}
use borrow.Author.Tests.{leb-true, le-leb}
use Rattle.model.specs.Gather.{one, sum, total, row}
use Rattle.model.specs.Galley.{Galley, Place, count, streams, zeros, sizes}
use Rattle.model.specs.Height.{stacked, height, tightest}
use Rattle.model.specs.Rules.{forward, fits}
use Rattle.model.specs.Best.{box}
use Rattle.model.specs.Weighed.{sum_of, product, weighs, weighed, past, weighed_from, most_together, ceiling}
use Rattle.model.proofs.laws.Gather.{and_left, and_right, and_both, every_of, total_le, total_has, row_at}
use Rattle.model.specs.laws.Lists.{Inside}
use Rattle.model.proofs.laws.Lists.{∈-unbox}
use Rattle.model.proofs.laws.Rules.{forward_at}
use Rattle.model.proofs.laws.Valid.{length_sizes, count_zeros}
use Rattle.model.proofs.laws.Boxes.{sum_of_le, sum_box, total_mul, total_same, product_mul}
use Rattle.model.proofs.laws.Together.{run_few}

-- No more than L + 1 numbers lie from `low` on and up to low + L.
few_within : (n low most : ℕ) (test : ℕ → Bool) → ((k : ℕ) → k ≤ n → test k ≡ true → (low ≤ k) × (k ≤ low + most))
    → (total n (λ k. one (test k)) ≤ suc n - low) × (total n (λ k. one (test k)) ≤ suc most)
unfolding total sum
few_within zero low most test h = go (test 0) refl
  where
    go : (b : Bool) → test 0 ≡ b → (one b + 0 ≤ 1 - low) × (one b + 0 ≤ suc most)
    go true e = omega (arith, (h 0 (le_refl 0) e).0)
    go false e = omega arith
few_within (suc n) low most test h = go (test (suc n)) refl (few_within n low most test (λ k l. h k (omega arith)))
  where
    go : (b : Bool) → test (suc n) ≡ b → (one (test 0) + sum n (λ k. one (test k)) ≤ suc n - low) × (one (test 0) + sum n (λ k. one (test k)) ≤ suc most)
        → (one (test 0) + (sum n (λ k. one (test k)) + one b) ≤ suc (suc n) - low) × (one (test 0) + (sum n (λ k. one (test k)) + one b) ≤ suc most)
    go true e rest = let at = h (suc n) (le_refl (suc n)) e in omega (arith, rest.0, at.0, at.1)
    go false e rest = omega (arith, rest.0, rest.1)

module _ (g : Galley) where
  most : ℕ → ℕ
  most s = most_together g (g.stream s)

  -- Blocks x + 1 to y of stream s are not too high by themselves.
  near : ℕ → ℕ → ℕ → Bool
  near s x y = leb x y && leb (stacked (g.stream s) (g.stream s).least x y) g.spec.htmax

  -- So it is in every stream, from stream s on.
  all_near : ℕ → Place → Place → Bool
  all_near s [] v = true
  all_near s (x ∷ u) [] = true
  all_near s (x ∷ u) (y ∷ v) = near s x y && all_near (suc s) u v

  -- A block has no more starts before it in its stream than the most that stand together, and one.
  near_few : (s n y : ℕ) → y ≤ (g.stream s).size → total n (λ x. one (near s x y)) ≤ suc (most s)
  unfolding near most
  near_few s n y top =
      (few_within n (y - most s) (most s) (λ x. near s x y)
      (λ x l t.
      let up = leb-true x y (and_left (leb x y) _ t) in
      let low = leb-true _ _ (and_right (leb x y) _ t) in
      let few = run_few g (g.stream s) x y up top low in
      omega arith)).1

  scaled : {A : Type 0} (b : Bool) (test : A → Bool) (xs : List A)
      → sum_of (λ x. one (b && test x)) xs ≤ one b * sum_of (λ x. one (test x)) xs
  unfolding sum_of
  scaled true test xs = omega arith
  scaled false test [] = omega arith
  scaled false test (x ∷ xs) = let rest = scaled false test xs in omega arith

  -- A stream more has as many times the starts.
  stream_more : (s y : ℕ) (v : Place) (us : List Place) (few : ℕ) → y ≤ (g.stream s).size
      → sum_of (λ u. one (all_near (suc s) u v)) us ≤ few
      → total (g.stream s).size (λ x. sum_of (λ u. one (near s x y && all_near (suc s) u v)) us) ≤ suc (most s) * few
  stream_more s y v us few top rest =
      let each =
      total_le (g.stream s).size (λ x. sum_of (λ u. one (near s x y && all_near (suc s) u v)) us) (λ x. one (near s x y) * few)
      (λ x l.
      let here = scaled (near s x y) (λ u. all_near (suc s) u v) us in
      let others = mul-le-mul_left (one (near s x y)) rest in
      omega arith) in
      let all = total_mul (g.stream s).size few (λ x. one (near s x y)) in
      let first = mul-le-mul_right few (near_few s (g.stream s).size y top) in
      omega arith

  -- And so a place has no more starts than the product of these.
  starts_few : (s n : ℕ) (v : Place) → length v ≡ n → ((i : ℕ) → i < n → get_or v i 0 ≤ (g.stream (s + i)).size)
      → sum_of (λ u. one (all_near s u v)) (box (row s n (λ s. (g.stream s).size))) ≤ product s n (λ s. suc (most s))
  unfolding row product box sum_of all_near
  starts_few s zero v e h = omega arith
  starts_few s (suc n) [] e h = absurd (omega arith)
  starts_few s (suc n) (y ∷ v) e h =
      let next : (i : ℕ) → i < n → get_or v i 0 ≤ (g.stream (suc s + i)).size =
      λ i l. let k : s + suc i ≡ suc s + i = omega arith in subst (λ k. get_or v i 0 ≤ (g.stream k).size) k (h (suc i) (omega arith)) in
      let here : s + 0 ≡ s = omega arith in
      rw (sum_box (λ u. one (all_near s u (y ∷ v))) (g.stream s).size (row (suc s) n (λ s. (g.stream s).size)))
      (stream_more s y v (box (row (suc s) n (λ s. (g.stream s).size))) (product (suc s) n (λ s. suc (most s)))
      (subst (λ k. y ≤ (g.stream k).size) here (h 0 (omega arith)))
      (starts_few (suc s) n v (omega arith) next))

  -- A page that is weighed is not too high in any stream by itself.
  weighs_near : (u v : Place) → length u ≡ streams g → weighs g u v ≡ true → (i : ℕ) → i < length u
      → near i (get_or u i 0) (get_or v i 0) ≡ true
  unfolding weighs near streams fits tightest height count
  weighs_near u v e h i l =
      let goes = forward_at g u v (and_left (forward g u v) (fits g u v) h) in
      let low = leb-true (tightest g u v) g.spec.htmax (and_right (forward g u v) (fits g u v) h) in
      let part = total_has g.floats (λ s. stacked (g.stream s) (g.stream s).least (count u s) (count v s)) i (omega arith) in
      and_both (le-leb (get_or u i 0) (get_or v i 0) (goes.up i (omega arith)))
      (le-leb (stacked (g.stream i) (g.stream i).least (get_or u i 0) (get_or v i 0)) g.spec.htmax (omega arith))

  all_near_lem : (s : ℕ) (u v : Place) → ((i : ℕ) → i < length u → near (s + i) (get_or u i 0) (get_or v i 0) ≡ true) → all_near s u v ≡ true
  unfolding all_near
  all_near_lem s [] v h = refl
  all_near_lem s (x ∷ u) [] h = refl
  all_near_lem s (x ∷ u) (y ∷ v) h =
      let here : s + 0 ≡ s = omega arith in
      and_both (subst (λ k. near k x y ≡ true) here (h 0 (omega arith)))
      (all_near_lem (suc s) u v
      (λ i l.
      let k : s + suc i ≡ suc s + i = omega arith in
      subst (λ k. near k (get_or u i 0) (get_or v i 0) ≡ true) k (h (suc i) (omega arith))))

  -- As many ends as places.
  ends_all : (s n c : ℕ) → sum_of (λ v. c) (box (row s n (λ s. (g.stream s).size))) ≡ product s n (λ s. suc (g.stream s).size) * c
  unfolding row product box sum_of
  ends_all s zero c = omega arith
  ends_all s (suc n) c =
      rw (sum_box (λ v. c) (g.stream s).size (row (suc s) n (λ s. (g.stream s).size)))
      (simp (ends_all (suc s) n c)
      (total_same (g.stream s).size (product (suc s) n (λ s. suc (g.stream s).size) * c)
      ∙ sym (mul_assoc (suc (g.stream s).size) (product (suc s) n (λ s. suc (g.stream s).size)) c)))

  one_le : (a b : Bool) → (a ≡ true → b ≡ true) → one a ≤ one b
  one_le true b h = let e : one b ≡ 1 = ap one (h refl) in omega arith
  one_le false b h = omega arith

  -- An end has no more starts than that.
  starts_of_lem : (v : Place) → Inside (sizes g) v
      → sum_of (λ u. one (weighs g u v)) (box (sizes g)) ≤ product 0 (streams g) (λ s. suc (most s))
  unfolding sizes
  starts_of_lem v inside =
      let Near_by =
      sum_of_le (λ u. one (weighs g u v)) (λ u. one (all_near 0 u v)) (box (sizes g))
      (λ u m.
      let long = (∈-unbox (sizes g) u m).long in
      one_le (weighs g u v) (all_near 0 u v)
      (λ h. all_near_lem 0 u v (λ i l. rw (zero-add i) (weighs_near u v (long ∙ length_sizes g) h i l)))) in
      let few =
      starts_few 0 (streams g) v (inside.long ∙ length_sizes g) (λ i l. rw (zero-add i) (size_at i (inside.under i) l)) in
      le_trans Near_by few
    where
      size_at : (i : ℕ) → get_or v i 0 ≤ get_or (sizes g) i 0 → i < streams g → get_or v i 0 ≤ (g.stream i).size
      size_at i h l = le_trans h (le_of_eq (row_at 0 (streams g) (λ s. (g.stream s).size) i l ∙ ap (λ s. (g.stream s).size) (zero-add i)))

  -- The count never passes the ceiling.
  pub weighed_ceiling : weighed g ≤ ceiling g
  unfolding weighed ceiling sizes most
  weighed_ceiling =
      let all =
      sum_of_le (λ v. sum_of (λ u. one (weighs g u v)) (box (sizes g))) (λ v. product 0 (streams g) (λ s. suc (most s))) (box (sizes g))
      (λ v m. starts_of_lem v (∈-unbox (sizes g) v m)) in
      let ends = ends_all 0 (streams g) (product 0 (streams g) (λ s. suc (most s))) in
      let both = product_mul 0 (streams g) (λ s. suc (g.stream s).size) (λ s. suc (most s)) in
      le_trans all (le_of_eq (ends ∙ sym both))

  and_le : (a b : Bool) → one (a && b) ≤ one b
  and_le true b = le_refl (one b)
  and_le false true = omega arith
  and_le false false = omega arith

  -- Nor does the count from a place on, which takes no pair more.
  pub weighed_from_le : (w : Place) → weighed_from g w ≤ weighed g
  unfolding weighed_from weighed
  weighed_from_le w =
      sum_of_le (λ v. sum_of (λ u. one (past g w u && weighs g u v)) (box (sizes g))) (λ v. sum_of (λ u. one (weighs g u v)) (box (sizes g)))
      (box (sizes g))
      (λ v m. sum_of_le (λ u. one (past g w u && weighs g u v)) (λ u. one (weighs g u v)) (box (sizes g)) (λ u n. and_le (past g w u) (weighs g u v)))

  -- From where nothing is placed on every start counts.
  past_zeros : (u : Place) → past g (zeros g) u ≡ true
  unfolding past
  past_zeros u = every_of g.floats (λ s. leb (count (zeros g) s) (count u s)) (λ s l. le-leb (count (zeros g) s) (count u s) (omega (arith, count_zeros g s l)))

  pub weighed_from_nothing : weighed_from g (zeros g) ≡ weighed g
  unfolding weighed_from weighed
  weighed_from_nothing = simp past_zeros
