-- `trace` meets its contract: each turn follows one chapter back, and the folios from chapter k on are those of the whole way.
use Prim.Native.Nat.{◌+◌, ◌-◌}
use borrow.Author.Rules.{rules}
use native.Mathlib.Omega.{arith}
use mathlib.Core.Path.{◌∙◌, ap, ◌≡◌}
use lib.Seq.{drop-set-lt}
use Rattle.course.specs.Trace.{followed}
use Rattle.course.specs.laws.Trace.{follow_range, follow_next, follow_done}
use Rattle.course.proofs.trace.trace.Goals as goal

pub overflow_sub-folios : goal.overflow_sub-folios
overflow_sub-folios c =
    let e : c.loop-k.k - 1 + 1 ≡ c.loop-k.k = omega (arith, c.loop-k-test.true) in
    rw e (omega (arith, follow_range _ c.loop-k.invariant.0))

pub bounds-from-k : goal.bounds-from-k
bounds-from-k c =
    let e : c.loop-k.k - 1 + 1 ≡ c.loop-k.k = omega (arith, c.loop-k-test.true) in
    rw e (omega (arith, follow_range _ c.loop-k.invariant.0, c.loop-k.invariant.0.within, c.requires.words, c.loop-k-test.true))

pub loop-k-preserved : goal.loop-k-preserved
loop-k-preserved c =
    let st = c.loop-k in
    let e : st.k - 1 + 1 ≡ st.k = omega (arith, c.loop-k-test.true) in
    rw e (follow_next st.k (omega (arith, c.loop-k-test.true)) st.invariant.0, search (rules, st.invariant.1))

pub returns : goal.returns
returns c =
    let args = c.args in
    follow_done _ c.loop-k.invariant.0 (omega (arith, c.loop-k-test.false))
    ∙ ap (followed _ _ _) (drop-set-lt (args.chapters + 1) args.folios.now args.chapters args.last (omega arith))
