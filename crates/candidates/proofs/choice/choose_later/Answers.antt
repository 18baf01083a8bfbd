-- `choose_later` meets its contract: each way is a clause of `chosen`, and where both are reached cost alone decides.
use mathlib.Core.Path.{sym}
use borrow.Author.Tests.{lt-ltb, le-ltb}
use Rattle.candidates.specs.Better.{wins, chosen}
use Rattle.candidates.proofs.laws.Choice.{later_left_behind, later_taken}
use Rattle.candidates.proofs.choice.choose_later.Goals as goal

pub returns-in_default : goal.returns-in_default
unfolding chosen
returns-in_default c = cc

pub returns-in_default-held : goal.returns-in_default-held
unfolding chosen wins
returns-in_default-held c = rw (c.in-Some.is, c.in_default-held.is)

pub returns-then-x-y : goal.returns-then-x-y
returns-then-x-y c =
    rw (c.in-Some-held.is, c.in-Some.is)
    (sym (later_left_behind _ _ _ _ (c.requires _ _ _ _ c.in-Some-held.is c.in-Some.is)
    (lt-ltb _ _ c.if-x-y.true)))

pub returns : goal.returns
returns c =
    rw (c.in-Some-held.is, c.in-Some.is)
    (sym (later_taken _ _ _ _ (c.requires _ _ _ _ c.in-Some-held.is c.in-Some.is)
    (le-ltb _ _ c.if-x-y.false)))
