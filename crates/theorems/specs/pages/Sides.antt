-- Of a page's number only its side matters.
use Rattle.std.specs.Prelude.{ℕ, suc, ◌≡◌, refl, Bool}
use Rattle.std.proofs.Common.{arith, sym}
use Rattle.model.specs.Galley.{Sides, single, double, Galley, Place}
use Rattle.model.specs.Leaf.{ends}
use Rattle.model.proofs.laws.Leaf.{ends_parity}
use Rattle.model.specs.Rules.{broken, cited}
use Rattle.model.specs.Order.{oddly}
use Rattle.model.specs.Best.{allowed}
use Rattle.theorems.specs.turns.Waiting.{page_cost}
use Rattle.theorems.specs.pages.Graph.{side}

-- The side of a side is that side.
pub side_side : (sides : Sides) (q : ℕ) → side sides (side sides q) ≡ side sides q
unfolding side
side_side single q = refl
side_side (double f) q = omega arith

-- The next page's side follows from the side.
pub side_next : (sides : Sides) (q : ℕ) → side sides (suc (side sides q)) ≡ side sides (suc q)
unfolding side
side_next single q = refl
side_next (double f) q = omega arith

-- The side follows from the next page's side.
pub side_back : (sides : Sides) (b d : ℕ) → side sides b ≡ b → side sides d ≡ d
    → side sides (suc b) ≡ side sides (suc d) → b ≡ d
unfolding side
side_back single b d h k e = omega arith
side_back (double f) b d h k e = omega arith

-- A page ends its leaf where its side does.
pub ends_side : (sides : Sides) (q : ℕ) → ends sides q ≡ ends sides (side sides q)
unfolding ends side
ends_side single q = refl
ends_side (double f) q = sym (ends_parity (double f) q)

-- Whether the last folio is odd goes by its page's side,
pub oddly_side : (sides : Sides) (q : ℕ) → oddly sides q ≡ oddly sides (side sides q)
unfolding oddly side
oddly_side single q = refl
oddly_side (double f) q = omega arith

-- and of the sides that occur it tells which.
pub oddly_back : (sides : Sides) (b d : ℕ) → side sides b ≡ b → side sides d ≡ d → oddly sides b ≡ oddly sides d → b ≡ d
unfolding oddly side
oddly_back single b d h k e = omega arith
oddly_back (double f) b d h k e = omega arith

module _ (g : Galley) (q : ℕ) (last : Bool) where
  -- The rules look only at the side.
  pub allowed_side : (u v : Place) → allowed g q last u v ≡ allowed g (side g.spec.sides q) last u v
  unfolding allowed broken cited
  allowed_side u v = rw (ends_side g.spec.sides q)

  -- A page's cost looks only at the side.
  pub cost_side : (v : Place) → page_cost g q last v ≡ page_cost g (side g.spec.sides q) last v
  unfolding page_cost
  cost_side v = rw (ends_side g.spec.sides q)
