-- A table filled within a limit, or without one: what is known of it in the end.
use Rattle.std.specs.Prelude.{ℕ, ◌≤◌, ◌≡◌, Bool, List, length, ltb, None}
use Rattle.model.specs.Gather.{pick}
use Rattle.galley.specs.declared.Galley.{Galley}
use Rattle.galley.specs.Model.{model_of}
use Rattle.places.specs.declared.Origin.{Origin}
use Rattle.places.specs.Entry.{joined, boundless, cleared}
use Rattle.candidates.specs.Read.{table_in}
use Rattle.filling.specs.Fill.{filled}
use Rattle.walk.specs.Trace.{entry_of}
use Rattle.walk.specs.Traceable.{is_reached, last_stop}
use Rattle.needs.specs.Needs.{work_needed}

-- Where a search begins, with another limit.
abbrev pub within : ℕ → Origin → Origin
within limit from = record { place = from.place; pages = from.pages; cost = from.cost; limit = limit }

-- The limit of so many turns, with any white.
unfoldable pub limit_of : ℕ → ℕ
limit_of turns = pick (ltb 1000000000 turns) boundless (joined 4294967295 turns)

-- The table was filled, and it is told whether the full place is reached.
pub record Tried (bytes : List ℕ) (g : Galley) (from : Origin) (work work' : List ℕ) (r : Bool) : Type 0 where
  pub is : work' ≡ filled (model_of bytes g) from work
  pub told : r ≡ is_reached (entry_of (table_in g work') (last_stop g work'))

-- The table was filled from the origin within the limit that is returned, whatever the work area held before; where the full place is not
-- reached there was no limit; and no word is changed beyond those that the galley needs.
pub record Sought (bytes : List ℕ) (g : Galley) (from : Origin) (work work' : List ℕ) (r : Origin) : Type 0 where
  pub same : r ≡ within r.limit from
  pub low : r.limit ≤ boundless
  pub before : List ℕ
  pub long : length before ≡ length work
  pub is : work' ≡ filled (model_of bytes g) r before
  pub sought : entry_of (table_in g work') (last_stop g work') ≡ None → r.limit ≡ boundless
  pub clean : cleared (work_needed g) work' ≡ cleared (work_needed g) work
