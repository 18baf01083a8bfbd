-- `first_below` meets its contract. The loop's invariant: the pages from the lines passed all reach the limit, to which each turn
-- adds one.
use mathlib.Core.Path.{◌≡◌}
use native.Mathlib.Omega.{arith}
use Rattle.window.specs.laws.First.{first_start, first_next, first_found}
use Rattle.window.proofs.slide.first_below.Goals as goal

pub loop-a-init : goal.loop-a-init
loop-a-init c = (omega (arith, c.requires.start), first_start _ _ _)

pub returns-then-far-limit : goal.returns-then-far-limit
returns-then-far-limit c =
    let st = c.loop-a in
    let far = c.reached-far.ensures in
    rw (← far) (first_found _ st.invariant.1 st.invariant.0 (λ l. omega (arith, c.if-far-limit.true, c.spaced.ensures)))

pub loop-a-preserved : goal.loop-a-preserved
loop-a-preserved c =
    let st = c.loop-a in
    (omega arith, first_next st.invariant.1 (omega (arith, c.if-far-limit.false, c.spaced.ensures)))

pub returns : goal.returns
returns c =
    let st = c.loop-a in
    let done : st.a ≡ c.args.i = omega arith in
    let far = c.reached-far.ensures in
    rw (← far) (rw done at (first_found _ st.invariant.1 st.invariant.0 (λ l. absurd (omega arith))))
