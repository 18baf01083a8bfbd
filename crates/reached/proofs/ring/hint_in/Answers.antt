-- `hint_in` meets its contract. The loop's invariant: no word before `at` names the column.
use Prim.Native.Nat.{◌+◌}
use native.Mathlib.Omega.{arith}
use mathlib.Core.Path.{refl, sym, ◌∙◌, ap}
use Rattle.reached.specs.Ring.{hint_name}
use Rattle.reached.proofs.laws.Ring.{absent_next}
use Rattle.reached.proofs.ring.hint_in.Goals as goal

pub loop-at-init : goal.loop-at-init
loop-at-init c = λ k l. absurd (omega arith)

pub returns-then-name_of-name : goal.returns-then-name_of-name
returns-then-name_of-name c =
    record {
      at = c.loop-at.at;
      inside = c.loop-at-test.true;
      word = refl;
      names = sym c.name_of.ensures ∙ c.if-name_of-name.true;
    }

pub loop-at-preserved : goal.loop-at-preserved
loop-at-preserved c =
    let a = c.args in
    absent_next a.seen.now (a.column + 1) c.loop-at.at c.loop-at.invariant (λ e. c.if-name_of-name.false (c.name_of.ensures ∙ e))

pub returns : goal.returns
returns c = λ x p. c.loop-at.invariant p.at (omega (arith, c.loop-at-test.false, p.inside)) (ap hint_name p.word ∙ p.names)
