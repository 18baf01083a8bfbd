-- `copy_numbers` meets its contract. The invariant: the first `i` words are numbers of the table, the others are as they were.
use Rattle.std.proofs.Common.{ℕ, List, ◌≡◌, ◌++◌, length, drop, ap, ◌∙◌, arith, zero-add}
use Rattle.std.proofs.Math.Seq.{take-length}
use Rattle.sections.specs.Copying.{overwritten}
use Rattle.sections.specs.laws.Copying.{copy_starts, copy_goes_on}
use Rattle.sections.proofs.copy_numbers.Goals as goal

pub loop-i-init : goal.loop-i-init
loop-i-init c = copy_starts _ _ _ _ (record { there = omega arith; room = c.requires })

pub loop-i-preserved : goal.loop-i-preserved
loop-i-preserved c =
    rw c.from.ensures (rw zero-add at (copy_goes_on _ _ _ _ c.loop-i.invariant c.loop-i-test.true))

pub returns : goal.returns
returns c =
    let table = c.args.table.now in
    let words = c.args.numbers.now in
    let state = c.loop-i in
    let all : state.i ≡ length table = omega (arith, state.invariant.some, c.loop-i-test.false) in
    state.invariant.done
    ∙ ap (λ (k : ℕ). overwritten table 0 k words) all
    ∙ ap (λ (ns : List ℕ). ns ++ drop (length table) words) (take-length table)
