-- The graph of pages obeys the laws of graphs, and the states of the table are a domain.
use Rattle.std.specs.Prelude.{ℕ, suc, ◌≤◌, ◌<◌, refl, ◌⊎◌, true}
use Rattle.std.proofs.Common.{le_trans, sym, ◌∙◌}
use native.Mathlib.Omega.{arith}
use Rattle.std.proofs.Math.Path.{◌≡◌, ap}
use Rattle.std.proofs.Math.ListN.{get_or}
use Rattle.model.specs.Galley.{Sides, Galley, Place, count, blocks}
use Rattle.model.specs.Order.{lex, geb, oddly}
use Rattle.model.specs.laws.Rules.{placed}
use Rattle.model.proofs.laws.Rules.{kept, forward_at, placed_grows}
use Rattle.model.proofs.laws.Valid.{placed_sizes}
use Rattle.model.proofs.laws.Order.{preference_refl, lex_preference, lex_antisymm, geb_preference, geb_antisymm}
use Rattle.theorems.specs.optimality.Graph.{Laws}
use Rattle.theorems.specs.optimality.Cell.{Domain}
use Rattle.theorems.specs.pages.Graph.{State, stop, end, Origin, Within, Step, Prefers, page_graph}

-- Two places, each no earlier than the other, are the same.
pub later_antisymm : (u w : Place) → lex geb u w ≡ true → lex geb w u ≡ true → u ≡ w
later_antisymm = lex_antisymm geb geb_antisymm

-- A place is no earlier than itself.
pub later_refl : (u : Place) → lex geb u u ≡ true
later_refl = preference_refl (lex_preference geb geb_preference)

-- At one place the side of even folios is preferred.
pub prefers_side : (sides : Sides) (u : Place) (b d : ℕ) → oddly sides b ≤ oddly sides d
    → (oddly sides b ≡ oddly sides d → b ≤ d) → Prefers sides (stop u b) (stop u d)
unfolding Prefers
prefers_side sides u b d h k = (later_refl u, λ e. (h, k))

-- Every state is preferred to itself,
prefers_refl : (sides : Sides) (s : State) → Prefers sides s s
unfolding Prefers
prefers_refl sides (stop u b) = prefers_side sides u b b (omega arith) (λ e. omega arith)
prefers_refl sides end = tt

-- what is preferred to a preferred state is preferred,
prefers_trans : (sides : Sides) (s t r : State) → Prefers sides s t → Prefers sides t r → Prefers sides s r
unfolding Prefers
prefers_trans sides (stop u b) (stop v c) (stop w d) (h, f) (k, f') = (
  (lex_preference geb geb_preference).trans u v w h k,
  λ e.
      let p = later_antisymm u v h (rw e k) in
      let (l, m) = f p in
      let (l', m') = f' (sym p ∙ e) in
      (le_trans l l', λ q. le_trans (m (omega arith)) (m' (omega arith))),
)
prefers_trans sides (stop u b) (stop v c) end p q = tt
prefers_trans sides (stop u b) end (stop w d) p q = absurd q
prefers_trans sides (stop u b) end end p q = tt
prefers_trans sides end (stop v c) r p q = absurd p
prefers_trans sides end end r p q = q

-- and two states that are each preferred to the other are the same.
prefers_antisymm : (sides : Sides) (s t : State) → Prefers sides s t → Prefers sides t s → s ≡ t
unfolding Prefers
prefers_antisymm sides (stop u b) (stop w d) (h, f) (k, f') =
    let e = later_antisymm u w h k in
    let (l, m) = f e in
    let (l', m') = f' (sym e) in
    let s = m (omega arith) in
    let s' = m' (omega arith) in
    let c : b ≡ d = omega arith in
    cc
prefers_antisymm sides (stop u b) end p q = absurd q
prefers_antisymm sides end (stop w d) p q = absurd p
prefers_antisymm sides end end p q = refl

-- The blocks placed where a state stops, and one more at the end.
unfoldable pub blocks_at : Galley → State → ℕ
blocks_at g (stop v c) = placed g v
blocks_at g end = suc (blocks g)

module _ (g : Galley) (from : Origin) where
  -- No page stops at the origin, since each starts there or past it.
  pub no_origin : (s t : State) → Step g from s t → ¬ (t ≡ (page_graph g from).o)
  unfolding Step Within count
  no_origin (stop u b) (stop v c) p e =
      let f = forward_at g u v (kept p.may).rule13 in
      let past = p.within.2.under f.more.0 in
      let at_origin_lem : v ≡ from.place = cc in
      let counts = ap (λ x. get_or x f.more.0 0) at_origin_lem in
      let more = f.more.2 in
      omega arith
  no_origin (stop u b) end p e = absurd cc
  no_origin end t p e = p

  -- Of two costs one is no more than the other.
  either : (a b : ℕ) → (a ≤ b) ⊎ (b ≤ a)
  either a b = grind arith

  -- The graph of pages obeys the laws of graphs.
  pub page_laws : Laws (page_graph g from)
  page_laws =
      record {
        le_refl = λ a. omega arith;
        le_trans = λ p q. omega arith;
        le_antisym = λ p q. omega arith;
        le_total = either;
        add_grows = λ u v a. omega arith;
        add_mono = λ u v p. omega arith;
        add_cancel = λ u v p. omega arith;
        tie_refl = prefers_refl g.spec.sides;
        tie_trans = λ {u} {v} {w}. prefers_trans g.spec.sides u v w;
        tie_antisym = λ {u} {v}. prefers_antisymm g.spec.sides u v;
        origin = λ {u} {v}. no_origin u v;
      }

  -- A step starts within the table,
  pub step_within : (s t : State) → Step g from s t → Within g from s
  unfolding Step
  step_within s t p = grind arith

  -- with fewer blocks placed than where it stops.
  pub step_falls : (s t : State) → Step g from s t → blocks_at g s < blocks_at g t
  unfolding Step blocks_at
  step_falls (stop u b) (stop v c) p = placed_grows g u v (kept p.may).rule13
  step_falls (stop u b) end p = let e = ap (placed g) p.whole in let all = placed_sizes g in omega arith
  step_falls end t p = absurd p

  -- So the states of the table are a domain.
  abbrev pub page_domain : Domain (page_graph g from)
  page_domain =
      record {
        In = Within g from;
        closed = λ {u} {v} i. step_within u v;
        rank = blocks_at g;
        falls = λ {u} {v} i. step_falls u v;
      }
