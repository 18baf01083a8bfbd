-- `forecast::together::tight_of` meets its contract. Each arm is `added` by its test, and the fields are in range.
use Prim.Native.Nat.{◌≤◌}
use native.Mathlib.Nat.{add-zero}
use native.Mathlib.Omega.{arith}
use Rattle.blocks.specs.Heights.{added}
use Rattle.forecast.proofs.together.tight_of.Goals as goal
use Rattle.forecast.proofs.together.tight_of.Goals.{After-field, After-field-height}

height-low : (c : After-field-height) → c.field-height.result ≤ 100000
height-low c =
    omega (arith, c.field-height.ensures, (c.requires.sound.ranged c.args.k c.requires.some c.requires.within).heights)

space-low : (c : After-field) → c.field.result ≤ 100000
space-low c =
    let space = c.requires.space c.if-spaced.true in
    let there = c.requires.sound.ranged c.args.gap space.0 space.1 in
    omega (arith, c.field.ensures, there.leasts, there.mosts)

pub returns-then-spaced : goal.returns-then-spaced
unfolding added
returns-then-spaced c =
    (simp (c.if-spaced.true, c.field-height.ensures, c.field.ensures), omega (arith, height-low (goal.at.returns-then-spaced c).After-field-height, space-low (goal.at.returns-then-spaced c).After-field))

pub returns : goal.returns
unfolding added
returns c = (simp (c.if-spaced.false, add-zero, c.field-height.ensures), omega (arith, height-low (goal.at.returns c).After-field-height))
