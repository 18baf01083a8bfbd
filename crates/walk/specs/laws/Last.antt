-- The side of the last page, from the two entries of the full place.
use Rattle.std.specs.Prelude.{ℕ, ◌-◌, ◌≡◌, Bool}
use Rattle.std.proofs.Common.{eq-eqb}
use Rattle.model.specs.Gather.{pick}
use Rattle.model.specs.Leaf.{sides_of}
use Rattle.places.specs.declared.Place.{Place}
use Rattle.places.specs.Entry.{Entry}
use Rattle.candidates.specs.Search.{Table}
use Rattle.walk.specs.Trace.{cheaper, even_side, last_side}

-- In double-sided work the side of even folios, unless the other entry is less dear.
pub last_double : (sides f : ℕ) (t : Table) (at : Place) {first second : Entry} {less : Bool}
    → second ≡ t at.line at.column (1 - even_side f) → first ≡ t at.line at.column (even_side f) → sides ≡ 2
    → less ≡ cheaper second first
    → pick less (1 - even_side f) (even_side f) ≡ last_side (sides_of sides f) t at
unfolding last_side sides_of
last_double sides f t at q p two e = rw (eq-eqb sides 2 two, e, p, q)
