-- `store` meets its contract: in each arm the entry is known, and what `put` ensures is the clause of `stored` for it.
use Rattle.places.specs.Entry.{stored}
use Rattle.places.proofs.store.Goals as goal

pub returns-in-None : goal.returns-in-None
unfolding stored
returns-in-None c =
    rw (c.in-None.is, ← c.address_of-at.ensures) c.put.ensures

pub returns-in-Some : goal.returns-in-Some
unfolding stored
returns-in-Some c =
    rw (c.in-Some.is, ← c.address_of-at.ensures) (rw (c.low_of.ensures, c.high_of.ensures) at c.put-in-Some.ensures)
