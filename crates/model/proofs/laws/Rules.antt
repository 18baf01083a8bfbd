-- What a page keeps that breaks no rule: the five tests, and the inequalities behind them.
use Rattle.std.specs.Prelude.{ℕ, ◌≤◌, ◌<◌, ◌≡◌, refl, ◌↔◌, Bool, true, false, ◌&&◌, ◌||◌, eqb, leb, ltb}
use Rattle.std.proofs.Common.{arith, eqb-true, ne_eqb, leb-true, le-leb, ltb-true, lt-ltb}
use Rattle.std.proofs.lemmas.Bool.{eqb-false}
use Rattle.model.specs.Gather.{pick, one, total, every}
use Rattle.model.specs.Galley.{Galley, Place, count}
use Rattle.model.specs.Height.{has, kinds, loosest}
use Rattle.model.specs.Rules.{forward, closes, fits, floor, fills, cited, first_broken, broken}
use Rattle.model.specs.Best.{allowed}
use Rattle.model.proofs.laws.Gather.{and_left, and_right, and_both, every_at, every_of, total_some, total_has, total_lt}
use Rattle.model.specs.laws.Rules.{placed, Kept}

none_broken : (a b c d e : Bool) → first_broken a b c d e ≡ 0
    → (a ≡ true) × (b ≡ true) × (c ≡ true) × (d ≡ true) × (e ≡ true)
unfolding first_broken
none_broken false b c d e h = absurd (omega arith)
none_broken true false c d e h = absurd (omega arith)
none_broken true true false d e h = absurd (omega arith)
none_broken true true true false e h = absurd (omega arith)
none_broken true true true true false h = absurd (omega arith)
none_broken true true true true true h = (refl, refl, refl, refl, refl)

-- A page that breaks no rule keeps all five.
pub kept : {g : Galley} {q : ℕ} {last : Bool} {u v : Place} → allowed g q last u v ≡ true → Kept g q last u v
unfolding allowed broken
kept {g} {q} {last} {u} {v} h =
    let t = none_broken (forward g u v) (closes g v) (fits g u v) (fills g last u v) (cited g q last v) (eqb-true _ _ h) in
    record { rule13 = t.0; rule14 = t.1; rule15 = t.2; rule16 = t.3; rule17 = t.4 }

-- A page that keeps all five breaks none.
pub kept_allowed : {g : Galley} {q : ℕ} {last : Bool} {u v : Place} → Kept g q last u v → allowed g q last u v ≡ true
unfolding allowed broken first_broken
kept_allowed k = simp (k.rule13, k.rule14, k.rule15, k.rule16, k.rule17)

-- In the first edition rule 16 asks nothing of the last page, and of every other htMin.
pub fills_first : (g : Galley) (last : Bool) (u v : Place) → g.spec.lastmin ≡ 0
    → fills g last u v ≡ (last || leb g.spec.htmin (loosest g u v))
unfolding fills
fills_first g true u v first = le-leb g.spec.lastmin (loosest g u v) (omega arith)
fills_first g false u v first = refl

-- Nor does the second constraint of a pagination on p pages, which is then the paper's own.
pub under_first : (g : Galley) (p : ℕ) (height : ℕ → ℕ) → g.spec.lastmin ≡ 0
    → ((q : ℕ) → 1 ≤ q → q ≤ p → floor g (eqb q p) ≤ height q) ↔ ((q : ℕ) → 1 ≤ q → q < p → g.spec.htmin ≤ height q)
under_first g p height first = (
  λ h q a b. rw (ne_eqb q p (λ e. omega arith)) at (h q a (omega arith)),
  λ h q a b. go q (eqb q p) refl a b (h q a),
)
  where
    go : (q : ℕ) (last : Bool) → eqb q p ≡ last → 1 ≤ q → q ≤ p → (q < p → g.spec.htmin ≤ height q)
        → pick last g.spec.lastmin g.spec.htmin ≤ height q
    go q true e a b h = omega arith
    go q false e a b h = let n = eqb-false q p e in h (omega arith)

-- What rule 13 says: no count falls, none passes its stream, and some count grows.
pub record Forward (g : Galley) (u v : Place) : Type 0 where
  pub up : (s : ℕ) → s ≤ g.floats → count u s ≤ count v s
  pub top : (s : ℕ) → s ≤ g.floats → count v s ≤ (g.stream s).size
  pub more : (s : ℕ) × (s ≤ g.floats) × (count u s < count v s)

pub forward_at : (g : Galley) (u v : Place) → forward g u v ≡ true → Forward g u v
unfolding forward kinds has
forward_at g u v h =
    let rises : ℕ → Bool = λ s. leb (count u s) (count v s) && leb (count v s) (g.stream s).size in
    let kind : ℕ → ℕ = λ s. one (ltb (count u s) (count v s)) in
    let both = every_at g.floats rises (and_left (every g.floats rises) (ltb 0 (total g.floats kind)) h) in
    let some =
    total_some g.floats kind
    (ltb-true 0 (total g.floats kind) (and_right (every g.floats rises) (ltb 0 (total g.floats kind)) h)) in
    record {
      up = λ s p. leb-true _ _ (and_left (leb (count u s) (count v s)) (leb (count v s) (g.stream s).size) (both s p));
      top = λ s p. leb-true _ _ (and_right (leb (count u s) (count v s)) (leb (count v s) (g.stream s).size) (both s p));
      more = (some.0, some.1, one_lt _ _ some.2);
    }
  where
    one_true : (b : Bool) → 0 < one b → b ≡ true
    one_true true p = refl
    one_true false p = absurd (omega arith)

    one_lt : (a b : ℕ) → 0 < one (ltb a b) → a < b
    one_lt a b p = ltb-true a b (one_true (ltb a b) p)

pub forward_of : (g : Galley) (u v : Place) → Forward g u v → forward g u v ≡ true
unfolding forward kinds has
forward_of g u v f =
    and_both (every_of g.floats _ (λ s p. and_both (le-leb _ _ (f.up s p)) (le-leb _ _ (f.top s p))))
    (lt-ltb _ _ (some_kind f.more.0 f.more.1 f.more.2))
  where
    some_kind : (s : ℕ) → s ≤ g.floats → count u s < count v s → 0 < total g.floats (λ s. one (ltb (count u s) (count v s)))
    some_kind s p l =
        let here = total_has g.floats (λ s. one (ltb (count u s) (count v s))) s p in
        let is : one (ltb (count u s) (count v s)) ≡ 1 = simp (lt-ltb _ _ l) in
        omega arith

-- A page that goes forward places a block at least.
pub placed_grows : (g : Galley) (u v : Place) → forward g u v ≡ true → placed g u < placed g v
unfolding placed
placed_grows g u v h =
    let f = forward_at g u v h in
    total_lt g.floats (count u) (count v) f.up f.more.0 f.more.1 f.more.2
