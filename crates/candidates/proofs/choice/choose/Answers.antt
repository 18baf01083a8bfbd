-- `choose` meets its contract: each way is a clause of `chosen`, and where the second entry is reached the test decides.
use mathlib.Core.Path.{sym, ◌∙◌}
use Rattle.candidates.specs.Better.{chosen}
use Rattle.candidates.proofs.choice.choose.Goals as goal

pub returns-in_default : goal.returns-in_default
unfolding chosen
returns-in_default c = cc

pub returns-then-wins : goal.returns-then-wins
unfolding chosen
returns-then-wins c =
    let test = sym c.wins.ensures ∙ c.if-wins.true in
    rw (c.in-Some.is, test)

pub returns : goal.returns
unfolding chosen
returns c =
    let test = sym c.wins.ensures ∙ c.if-wins.false in
    rw (c.in-Some.is, test)
