-- `copy_words` meets its contract. The invariant: the first `i` words are the opening's, the others are as they were.
use native.Mathlib.Omega.{arith}
use Rattle.solving.specs.laws.Copied.{copy_starts, copy_goes_on, copy_ends}
use Rattle.solving.proofs.opening.copy_words.Goals as goal

pub loop-i-preserved : goal.loop-i-preserved
loop-i-preserved c = copy_goes_on _ _ c.loop-i.invariant c.loop-i-test.true

pub returns : goal.returns
returns c = copy_ends _ _ c.loop-i.invariant c.loop-i-test.false

pub loop-i-init : goal.loop-i-init
loop-i-init c = copy_starts _ _ c.requires

pub bounds-pages-i : goal.bounds-pages-i
bounds-pages-i c = omega (arith, c.loop-i-test.true, c.loop-i.invariant.room, c.loop-i.invariant.long)

pub shape_of-pages : goal.shape_of-pages
shape_of-pages c = c.loop-i.invariant.long
