-- `copy_words` meets its contract. The invariant: the first `i` words are copied, the others are as they were.
use Prim.Native.Nat.{ℕ}
use native.Mathlib.Omega.{arith}
use mathlib.Core.Path.{◌≡◌, ap, ◌∙◌}
use mathlib.Core.List.{◌++◌}
use lib.ListN.{take, drop}
use Rattle.layouts.specs.laws.Words.{copy_starts, copy_goes_on}
use Rattle.layouts.proofs.words.copy_words.Goals as goal

pub loop-i-init : goal.loop-i-init
loop-i-init c = copy_starts _ _ _ c.requires

pub loop-i-preserved : goal.loop-i-preserved
loop-i-preserved c = copy_goes_on _ _ _ c.loop-i.invariant c.loop-i-test.true

pub returns : goal.returns
returns c =
    let entry = c.args in
    let state = c.loop-i in
    let all : state.i ≡ entry.count = omega (arith, state.invariant.some, c.loop-i-test.false) in
    state.invariant.done ∙ ap (λ (k : ℕ). take k entry.from.now ++ drop k entry.into.now) all
