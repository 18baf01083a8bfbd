-- A page that grows, at its end or back from its start, never gets less high.
use Rattle.std.specs.Prelude.{ℕ, pred, ◌+◌, ◌-◌, ◌≤◌, ◌≡◌, refl, Bool, true, false, ltb}
use Rattle.std.proofs.Math.Nat.{pred-le-pred}
use Rattle.std.proofs.Common.{mul-le-mul_right, arith, ap, ltb-true, lt-ltb}
use Rattle.std.proofs.Math.Decide.{dec_le}
use Rattle.model.specs.Gather.{one, sum, between}
use Rattle.model.specs.Galley.{Stream, Galley, Place, count}
use Rattle.model.specs.Height.{has, kinds, stacked, height, tightest}
use Rattle.model.proofs.laws.Gather.{between_sum, total_le}

-- The page from u' to v' has all that the page from u to v has.
pub record Wider (g : Galley) (u v u' v' : Place) : Type 0 where
  pub back : (s : ℕ) → s ≤ g.floats → count u' s ≤ count u s
  pub page : (s : ℕ) → s ≤ g.floats → count u s ≤ count v s
  pub on : (s : ℕ) → s ≤ g.floats → count v s ≤ count v' s

pub sum_mono : (n m : ℕ) (f : ℕ → ℕ) → n ≤ m → sum n f ≤ sum m f
sum_mono n m f h = let e = between_sum n m f h in omega arith

pub between_grows : (f : ℕ → ℕ) (a b a' b' : ℕ) → a' ≤ a → a ≤ b → b ≤ b' → between a b f ≤ between a' b' f
between_grows f a b a' b' h i j =
    let inner = between_sum a b f i in
    let outer = between_sum a' b' f (omega arith) in
    let back = sum_mono a' a f h in
    let on = sum_mono b b' f j in
    omega arith

-- Nothing stands between a and a place before it.
pub between_none : (f : ℕ → ℕ) (a b : ℕ) → b ≤ a → between a b f ≡ 0
unfolding between sum
between_none f a b h = let e : b - a ≡ 0 = omega arith in ap (λ n. sum n (λ k. f (a + k))) e

pub stacked_grows : (st : Stream) (gap : ℕ → ℕ) (a b a' b' : ℕ) → a' ≤ a → a ≤ b → b ≤ b'
    → stacked st gap a b ≤ stacked st gap a' b'
unfolding stacked
stacked_grows st gap a b a' b' h i j = let blocks = between_grows st.ht a b a' b' h i j in go (dec_le a (pred b)) blocks
  where
    go : Dec (a ≤ pred b) → between a b st.ht ≤ between a' b' st.ht
        → between a b st.ht + between a (pred b) gap ≤ between a' b' st.ht + between a' (pred b') gap
    go (yes l) blocks = let spaces = between_grows gap a (pred b) a' (pred b') h l (pred-le-pred j) in omega arith
    go (no l) blocks = let spaces = between_none gap a (pred b) (omega arith) in omega arith

one_mono : (a b : Bool) → (a ≡ true → b ≡ true) → one a ≤ one b
one_mono true b h = let e : one b ≡ 1 = ap one (h refl) in omega arith
one_mono false b h = omega arith

pub kinds_grow : (g : Galley) (u v u' v' : Place) → Wider g u v u' v' → kinds g u v ≤ kinds g u' v'
unfolding kinds has
kinds_grow g u v u' v' w =
    total_le g.floats (λ s. one (ltb (count u s) (count v s))) (λ s. one (ltb (count u' s) (count v' s)))
    (λ s h.
    one_mono (ltb (count u s) (count v s)) (ltb (count u' s) (count v' s))
    (λ e.
    let l = ltb-true (count u s) (count v s) e in
    let b = w.back s h in
    let o = w.on s h in
    lt-ltb (count u' s) (count v' s) (omega arith)))

pub height_grows : (g : Galley) (gap : Stream → ℕ → ℕ) (separation : ℕ) (u v u' v' : Place) → Wider g u v u' v'
    → height g gap separation u v ≤ height g gap separation u' v'
unfolding height
height_grows g gap separation u v u' v' w =
    let stacks =
    total_le g.floats (λ s. stacked (g.stream s) (gap (g.stream s)) (count u s) (count v s))
    (λ s. stacked (g.stream s) (gap (g.stream s)) (count u' s) (count v' s))
    (λ s h. stacked_grows (g.stream s) (gap (g.stream s)) _ _ _ _ (w.back s h) (w.page s h) (w.on s h)) in
    let seps = mul-le-mul_right separation (pred-le-pred (kinds_grow g u v u' v' w)) in
    omega arith

-- Growing along a page never lowers its tightest height.
pub tightest_grows : (g : Galley) (u v u' v' : Place) → Wider g u v u' v' → tightest g u v ≤ tightest g u' v'
unfolding tightest
tightest_grows g = height_grows g (λ st. st.least) g.spec.smin
