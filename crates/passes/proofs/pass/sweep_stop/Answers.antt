-- `sweep_stop` meets its contract. The loop's invariant: line i is after the last one of the pass.
use mathlib.Core.Path.{sym, ◌∙◌}
use Rattle.passes.proofs.laws.Stop.{stop_found}
use Rattle.passes.proofs.pass.sweep_stop.Goals as goal

pub returns-then-too_tall : goal.returns-then-too_tall
returns-then-too_tall c =
    stop_found c.requires c.loop-i.invariant
    (rw (← c.sweep_end-end.ensures) c.loop-i-test.true)
    (rw c.load-load.ensures at (sym c.too_tall.ensures ∙ c.if-too_tall.true))
