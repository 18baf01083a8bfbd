-- `offer` meets its contract: each way is a clause of `taken`, and where the other entry is reached the test decides.
use mathlib.Core.Path.{sym, ◌∙◌}
use Rattle.places.specs.Table.{table_of}
use Rattle.candidates.specs.Better.{taken}
use Rattle.candidates.proofs.choice.offer.Goals as goal

pub returns-in_default : goal.returns-in_default
unfolding taken
returns-in_default c = cc

pub returns-then-wins : goal.returns-then-wins
unfolding taken table_of
returns-then-wins c =
    let test = sym c.wins.ensures ∙ c.if-wins.true in
    let held = c.entry_of-held.ensures in
    c.store.ensures ∙ rw (c.in-Some.is, ← held, test)

pub returns-else-wins : goal.returns-else-wins
unfolding taken table_of
returns-else-wins c =
    let test = sym c.wins.ensures ∙ c.if-wins.false in
    let held = c.entry_of-held.ensures in
    rw (c.in-Some.is, ← held, test)
