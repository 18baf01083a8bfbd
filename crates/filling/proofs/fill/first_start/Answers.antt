-- `first_start` meets its contract: an empty column has nothing to look for.
use Rattle.filling.specs.laws.First.{blank_found}
use Rattle.filling.proofs.fill.first_start.Goals as goal

pub returns-then-not-any-clause-begun : goal.returns-then-not-any-clause-begun
returns-then-not-any-clause-begun c =
    let asked = c.requires in
    record { found = blank_found asked.0 (asked.2 c.if-not-any.true) _; later = λ i l same. c.if-j-task.false same.1 }
