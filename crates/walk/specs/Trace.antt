-- From the last page back to the first, by the start that each entry holds.
use Rattle.std.specs.Prelude.{ℕ, zero, suc, ◌+◌, ◌-◌, ◌*◌, ◌%◌, Bool, true, false, List, None, Some}
use Rattle.std.proofs.lemmas.List.Edits.{sets}
use Rattle.model.specs.Gather.{pick}
use Rattle.model.specs.Galley.{Sides, single, double, Galley, streams}
use Rattle.places.specs.declared.Place.{Place}
use Rattle.places.specs.declared.Origin.{Origin}
use Rattle.places.specs.Entry.{Entry, less}
use Rattle.places.specs.Columns.{place_at}
use Rattle.candidates.specs.Search.{Table, before, begins}
use Rattle.walk.specs.declared.Stop.{Stop}

-- The start that the entry of a place holds; from a place that was never reached the walk goes nowhere.
unfoldable pub start_of : Entry → Place → Place
start_of None at = at
start_of (Some l) at = l.start

-- The first entry is strictly less dear than the second; an unreached one is not.
unfoldable pub cheaper : Entry → Entry → Bool
cheaper None e = false
cheaper (Some l) None = true
cheaper (Some l) (Some k) = less l.cost k.cost

-- The side of the pages with an even folio, from a first folio on.
abbrev pub even_side : ℕ → ℕ
even_side f = (f - 1) % 2

-- The side of the last page of the best list: in double-sided work that of an even last folio, unless the other costs strictly
-- less (document 01, "Making"; document 02, S-1).
unfoldable pub last_side : Sides → Table → Place → ℕ
last_side single t at = 0
last_side (double f) t at =
    let even = even_side f in
    pick (cheaper (t at.line at.column (1 - even)) (t at.line at.column even)) (1 - even) even

-- The entry where a page stops.
abbrev pub entry_of : Table → Stop → Entry
entry_of t at = t at.place.line at.place.column at.side

-- One page back: to the start that the entry holds, on the side of the page before.
abbrev pub back : Sides → Table → Stop → Stop
back sides t at = record { place = start_of (entry_of t at) at.place; side = before sides at.side }

-- The walk is where the search began.
abbrev pub at_origin : Sides → Origin → Stop → Bool
at_origin sides from at = begins sides from at.place.line at.place.column at.side

-- The number of pages on the way back to the origin, added to p; at most `most` of them are walked.
unfoldable pub count_back : Sides → Table → Origin → ℕ → Stop → ℕ → ℕ
count_back sides t from zero at p = p
count_back sides t from (suc most) at p = pick (at_origin sides from at) p (count_back sides t from most (back sides t at) (p + 1))

-- The page list with the last r pages before a stop written, from page r back to page 1: of each the words of its place, one for each
-- stream.
unfoldable pub write_back : Galley → Table → ℕ → Stop → List ℕ → List ℕ
write_back g t zero at ws = ws
write_back g t (suc r) at ws =
    write_back g t r (back g.spec.sides t at) (sets ws (streams g * r) (place_at g at.place.line at.place.column))
