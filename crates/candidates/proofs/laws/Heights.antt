-- The height of a page is that of its lines and of what it has beside them; and when a page goes forward, by line and column.
use Prim.Native.Nat.{ℕ, zero, suc, pred, ◌+◌, ◌*◌, ◌≤◌, ◌<◌}
use Rattle.std.proofs.Common.{le_refl, suc-mul, sym, ◌∙◌, inl, inr}
use Rattle.std.proofs.Math.Nat.{le-suc_iff}
use Rattle.std.proofs.Math.Decide.{dec_le, dec_lt}
use native.Mathlib.Omega.{arith}
use Rattle.std.specs.Prelude.{◌≡◌, ◌⊎◌, true, length, ltb}
use Rattle.std.proofs.Math.Path.{refl, ap}
use Rattle.std.proofs.Math.ListN.{get_or, get_or-eq_default}
use borrow.Author.Tests.{lt-ltb, le-ltb, leb-true, le-leb}
use Rattle.model.specs.Gather.{one, sum, total}
use Rattle.model.specs.Galley.{Stream, Galley, Place, count, streams, sizes}
use Rattle.model.specs.Height.{has, kinds, stacked, height, tightest}
use Rattle.model.specs.Rules.{forward, fits}
use Rattle.model.proofs.laws.Gather.{sum_ext, sum_zero, sum_has, length_row}
use Rattle.model.proofs.laws.Height.{between_none, tightest_grows}
use Rattle.model.proofs.laws.Rules.{forward_at, forward_of}
use Rattle.model.specs.laws.Lists.{Inside}
use Rattle.model.proofs.laws.Valid.{count_sizes}
use Rattle.places.specs.Columns.{columns, floats_at, float_sizes, place_at}
use Rattle.places.proofs.laws.Columns.{inside_cons, inside_tail, column_grows, column_of_floats}
use Rattle.places.specs.Order.{Earlier}
use Rattle.places.proofs.laws.Places.{place_inside, line_at}
use Rattle.candidates.specs.Beside.{Under, floats_high, float_kinds, beside, alone}

module _ (g : Galley) (gap : Stream → ℕ → ℕ) (separation : ℕ) where
  -- Floats are those of the columns, whatever the lines.
  stacks : (a b i q : ℕ)
      → sum g.floats (λ s. stacked (g.stream s) (gap (g.stream s)) (count (place_at g a b) s) (count (place_at g i q) s)) ≡ floats_high g gap b q
  unfolding floats_high
  stacks a b i q = sum_ext g.floats _ _ same
    where
      same : (k : ℕ) → 1 ≤ k → k ≤ g.floats
          → stacked (g.stream k) (gap (g.stream k)) (count (place_at g a b) k) (count (place_at g i q) k)
          ≡ stacked (g.stream k) (gap (g.stream k)) (count (place_at g 0 b) k) (count (place_at g 0 q) k)
      same zero h l = absurd (omega arith)
      same (suc k) h l = unfold count place_at in refl

  sorts : (a b i q : ℕ) → sum g.floats (λ s. one (has (place_at g a b) (place_at g i q) s)) ≡ float_kinds g b q
  unfolding float_kinds
  sorts a b i q = sum_ext g.floats _ _ same
    where
      same : (k : ℕ) → 1 ≤ k → k ≤ g.floats
          → one (has (place_at g a b) (place_at g i q) k) ≡ one (has (place_at g 0 b) (place_at g 0 q) k)
      same zero h l = absurd (omega arith)
      same (suc k) h l = unfold has count place_at in refl

  whole : (a b i q : ℕ)
      → height g gap separation (place_at g a b) (place_at g i q)
      ≡ (stacked (g.stream 0) (gap (g.stream 0)) a i + floats_high g gap b q) + pred (one (ltb a i) + float_kinds g b q) * separation
  unfolding height kinds total
  whole a b i q = rw (stacks a b i q, sorts a b i q) (unfold has count place_at in refl)

  -- A page with a line is as high as its lines and what it has beside them.
  pub height_lines : (a b i q : ℕ) → a < i
      → height g gap separation (place_at g a b) (place_at g i q) ≡ stacked (g.stream 0) (gap (g.stream 0)) a i + beside g gap separation b q
  unfolding beside
  height_lines a b i q l =
      let t = lt-ltb a i l in
      let e = rw t at (whole a b i q) in
      let k : pred (1 + float_kinds g b q) ≡ float_kinds g b q = omega arith in
      let f = rw k at e in
      omega arith

  -- A page without lines is as high as its floats.
  pub height_alone : (b i q : ℕ) → height g gap separation (place_at g i b) (place_at g i q) ≡ alone g gap separation b q
  unfolding alone stacked
  height_alone b i q =
      let t = le-ltb i i (le_refl i) in
      let e = rw t at (whole i b i q) in
      let k : pred (0 + float_kinds g b q) ≡ pred (float_kinds g b q) = omega arith in
      let f = rw k at e in
      let x = between_none (g.stream 0).ht i i (le_refl i) in
      let y = between_none (gap (g.stream 0)) i (pred i) (omega arith) in
      omega arith

-- Of two rows of numbers, the first no greater anywhere, either all are equal or some number is greater.
grown : (n : ℕ) (f h : ℕ → ℕ) → ((s : ℕ) → s ≤ n → f s ≤ h s)
    → ((s : ℕ) → s ≤ n → h s ≤ f s) ⊎ ((s : ℕ) × (s ≤ n) × (f s < h s))
grown zero f h low = go (dec_lt (f 0) (h 0))
  where
    go : Dec (f 0 < h 0) → ((s : ℕ) → s ≤ 0 → h s ≤ f s) ⊎ ((s : ℕ) × (s ≤ 0) × (f s < h s))
    go (yes l) = inr (0, le_refl 0, l)
    go (no l) = inl (λ s k. let e : s ≡ 0 = omega arith in rw e (omega arith))
grown (suc n) f h low = go (dec_lt (f (suc n)) (h (suc n))) (grown n f h (λ s k. low s (omega arith)))
  where
    go : Dec (f (suc n) < h (suc n)) → ((s : ℕ) → s ≤ n → h s ≤ f s) ⊎ ((s : ℕ) × (s ≤ n) × (f s < h s))
        → ((s : ℕ) → s ≤ suc n → h s ≤ f s) ⊎ ((s : ℕ) × (s ≤ suc n) × (f s < h s))
    go (yes l) d = inr (suc n, le_refl (suc n), l)
    go (no l) (inr (s, k, m)) = inr (s, omega arith, m)
    go (no l) (inl all) = inl (λ s k. near s (le-suc_iff.0 k))
      where
        near : (s : ℕ) → (s ≤ n) ⊎ (s ≡ suc n) → h s ≤ f s
        near s (inl k) = all s k
        near s (inr e) = rw e (omega arith)

module _ (g : Galley) (i q : ℕ) (high : i ≤ (g.stream 0).size) (wide : q < columns (float_sizes g)) where
  -- A page from an earlier place in a column under q goes forward,
  pub forward_under : (a b : ℕ) → a ≤ i → b < columns (float_sizes g) → Under g b q → Earlier a b i q
      → forward g (place_at g a b) (place_at g i q) ≡ true
  unfolding count
  forward_under a b h k under some =
      forward_of g (place_at g a b) (place_at g i q)
      (record { up = λ s l. inside.under s; top = top; more = more (grown g.floats (λ s. get_or (place_at g a b) s 0) (λ s. get_or (place_at g i q) s 0) (λ s l. inside.under s)) })
    where
      inside : Inside (place_at g i q) (place_at g a b)
      inside = unfold place_at in inside_cons i a (floats_at (float_sizes g) q) (floats_at (float_sizes g) b) h under

      whole : Inside (sizes g) (place_at g i q)
      whole = place_inside g i q high wide

      top : (s : ℕ) → s ≤ g.floats → get_or (place_at g i q) s 0 ≤ (g.stream s).size
      top s l = omega (arith, count_sizes g s l, whole.under s)

      long : length (sizes g) ≡ suc g.floats
      long = unfold sizes streams in length_row 0 (suc g.floats) (λ s. (g.stream s).size)

      more : ((s : ℕ) → s ≤ g.floats → get_or (place_at g i q) s 0 ≤ get_or (place_at g a b) s 0)
          ⊎ ((s : ℕ) × (s ≤ g.floats) × (get_or (place_at g a b) s 0 < get_or (place_at g i q) s 0))
          → (s : ℕ) × (s ≤ g.floats) × (get_or (place_at g a b) s 0 < get_or (place_at g i q) s 0)
      more (inr m) = m
      more (inl all) = absurd (none some)
        where
          every : (s : ℕ) → Dec (s ≤ g.floats) → get_or (place_at g i q) s 0 ≤ get_or (place_at g a b) s 0
          every s (yes l) = all s l
          every s (no l) = rw (get_or-eq_default (place_at g i q) 0 {n = s} (omega (arith, whole.long, long))) (omega arith)

          back : Inside (place_at g a b) (place_at g i q)
          back = record { long = sym inside.long; under = λ s. every s (dec_le s g.floats) }

          lines : i ≤ a
          lines = unfold place_at in back.under 0

          across : q ≤ b
          across =
              let t : Inside (floats_at (float_sizes g) b) (floats_at (float_sizes g) q) =
              unfold place_at in inside_tail a i (floats_at (float_sizes g) b) (floats_at (float_sizes g) q) back in
              omega (
                arith,
                column_grows (float_sizes g) (floats_at (float_sizes g) q) (floats_at (float_sizes g) b) t,
                column_of_floats (float_sizes g) q wide,
                column_of_floats (float_sizes g) b k,
              )

          none : Earlier a b i q → ⊥
          none (inl l) = omega (arith, across)
          none (inr (e, l)) = omega (arith, lines)

-- From an earlier column under another there is some kind of float,
pub kinds_some : (g : Galley) (b q : ℕ) → q < columns (float_sizes g) → Under g b q → b < q → 0 < float_kinds g b q
unfolding float_kinds has
kinds_some g b q wide under l =
    go (forward_at g (place_at g 0 b) (place_at g 0 q) (forward_under g 0 q (omega arith) wide 0 b (le_refl 0) (omega arith) under (inl l))).more
  where
    go : (s : ℕ) × (s ≤ g.floats) × (count (place_at g 0 b) s < count (place_at g 0 q) s)
        → 0 < sum g.floats (λ s. one (ltb (count (place_at g 0 b) s) (count (place_at g 0 q) s)))
    go (zero, k, m) = absurd (omega (arith, line_at g 0 b, line_at g 0 q))
    go (suc s, k, m) =
        let here = sum_has g.floats (λ s. one (ltb (count (place_at g 0 b) s) (count (place_at g 0 q) s))) (suc s) (omega arith) k in
        let some = ap one (lt-ltb (count (place_at g 0 b) (suc s)) (count (place_at g 0 q) (suc s)) m) in
        omega arith

-- so that floats have one separation more beside lines than alone.
pub beside_alone : (g : Galley) (gap : Stream → ℕ → ℕ) (separation b q : ℕ) → 0 < float_kinds g b q
    → beside g gap separation b q ≡ alone g gap separation b q + separation
unfolding beside alone
beside_alone g gap separation b q some =
    let next : float_kinds g b q ≡ suc (pred (float_kinds g b q)) = omega arith in
    let times = ap (λ n. n * separation) next ∙ suc-mul (pred (float_kinds g b q)) separation in
    omega arith

-- From a column to itself there is no float, and so nothing beside lines.
pub beside_none : (g : Galley) (gap : Stream → ℕ → ℕ) (separation q : ℕ) → beside g gap separation q q ≡ 0
unfolding beside floats_high float_kinds has stacked
beside_none g gap separation q =
    rw (
      sum_ext g.floats _ _ (λ k h l. low k) ∙ sum_zero g.floats,
      sum_ext g.floats _ _ (λ k h l. none k) ∙ sum_zero g.floats,
    ) (omega arith)
  where
    low : (k : ℕ) → stacked (g.stream k) (gap (g.stream k)) (count (place_at g 0 q) k) (count (place_at g 0 q) k) ≡ 0
    low k =
        let at = count (place_at g 0 q) k in
        let x = between_none (g.stream k).ht at at (le_refl at) in
        let y = between_none (gap (g.stream k)) at (pred at) (omega arith) in
        unfold stacked in omega arith

    none : (k : ℕ) → one (has (place_at g 0 q) (place_at g 0 q) k) ≡ 0
    none k = unfold has in ap one (le-ltb (count (place_at g 0 q) k) (count (place_at g 0 q) k) (le_refl _))

-- A page that starts later in every stream fits where the earlier one does.
pub fits_later : (g : Galley) (u u' v : Place) → Inside u u' → Inside v u → fits g u' v ≡ true → fits g u v ≡ true
unfolding fits count
fits_later g u u' v back page fit =
    let more = tightest_grows g u v u' v (record { back = λ s l. back.under s; page = λ s l. page.under s; on = λ s l. le_refl _ }) in
    le-leb (tightest g u v) g.spec.htmax (omega (arith, leb-true (tightest g u' v) g.spec.htmax fit))
