-- `factors_of` meets its contract: it computes the definition, and no more blocks stand together than there are.
use Prim.Native.Nat.{◌+◌, ◌*◌, ◌≤◌}
use native.Mathlib.Nat.{mul-le-mul}
use native.Mathlib.Omega.{arith}
use Rattle.galley.specs.Model.{stream_of}
use Rattle.forecast.specs.laws.Ceiling.{factors_is}
use Rattle.forecast.proofs.ceiling.factors_of.Goals as goal
use Rattle.forecast.proofs.ceiling.factors_of.Goals.{After-most_together-most}

low : (c : After-most_together-most)
    → (c.args.stream.count + 1) * (c.most_together-most.result + 1)
    ≤ (c.args.stream.count + 1) * (c.args.stream.count + 1)
low c =
    let n = c.args.stream.count in
    mul-le-mul {n₁ = n + 1} {m₁ = c.most_together-most.result + 1} {n₂ = n + 1} {m₂ = n + 1} (omega arith) (omega (arith, c.most_together-most.ensures.1))

pub returns : goal.returns
returns c =
    let a = c.args in (
      λ g legal cite is. factors_is g (stream_of a.s.now a.stream legal cite) c.most_together-most.result (c.most_together-most.ensures.0 g legal cite is),
      low (goal.at.returns c).After-most_together-most,
    )
