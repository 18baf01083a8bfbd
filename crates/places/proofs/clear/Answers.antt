-- `clear` meets its contract: what is cleared before the loop is zeros already, and each turn's store is the law of one word more.
use mathlib.Core.Path.{◌≡◌, refl, sym, ap, ◌∙◌}
use mathlib.Core.List.{List}
use Prim.Native.Nat.{ℕ}
use native.Mathlib.Omega.{arith}
use lib.ListN.{set}
use Rattle.places.proofs.laws.Cleared.{cleared_already, cleared_next}
use borrow.Author.Rules.{rules}
use Rattle.places.proofs.clear.Goals as goal

pub loop-k-init : goal.loop-k-init
loop-k-init c = (sym (cleared_already _ _ c.requires.2), refl)

pub loop-k-preserved : goal.loop-k-preserved
loop-k-preserved c =
    let st = c.loop-k in
    (ap (λ (l : List ℕ). set l st.k 0) st.invariant.0 ∙ cleared_next st.k c.args.work.now (omega arith), search rules)

pub returns : goal.returns
returns c =
    let st = c.loop-k in
    let done : st.k ≡ c.args.n = omega arith in
    rw done at st.invariant.0
