-- `pad` meets its contract. The invariant: the first `i` bytes are copied, the others are zeros.
use Prim.Native.Nat.{ℕ}
use native.Mathlib.Omega.{arith}
use mathlib.Core.Path.{◌≡◌, ap, ◌∙◌}
use mathlib.Core.List.{List, ◌++◌}
use lib.ListN.{length, take, drop, replicate}
use lib.Seq.{take-length}
use Rattle.layouts.specs.Names.{padded}
use Rattle.layouts.specs.laws.Words.{copy_starts, copy_goes_on}
use Rattle.layouts.proofs.names.pad.Goals as goal

pub loop-i-init : goal.loop-i-init
loop-i-init c = copy_starts _ _ _ (record { there = omega arith; room = omega (arith, c.requires) })

pub loop-i-preserved : goal.loop-i-preserved
loop-i-preserved c = copy_goes_on _ _ _ c.loop-i.invariant c.loop-i-test.true

pub returns : goal.returns
unfolding padded
returns c =
    let name = c.args.name.now in
    let state = c.loop-i in
    let all : state.i ≡ length name = omega (arith, state.invariant.some, c.loop-i-test.false) in
    state.invariant.done
    ∙ ap (λ (k : ℕ). take k name ++ drop k (replicate 16 0)) all
    ∙ ap (λ (bytes : List ℕ). bytes ++ drop (length name) (replicate 16 0)) (take-length name)
