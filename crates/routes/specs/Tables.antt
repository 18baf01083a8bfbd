-- The tables of a chapter from both folios, each in one half of the work area, and the routes that they tell.
use Rattle.std.specs.Prelude.{ℕ, ◌*◌, ◌≤◌, ◌≡◌, Bool, true, List, length, take, drop}
use Rattle.galley.specs.declared.Galley.{Galley}
use Rattle.galley.specs.Sound.{Sound}
use Rattle.places.specs.Address.{words_needed}
use Rattle.candidates.specs.Read.{columns_in}
use Rattle.closings.specs.Chapter.{on_folio, Tabled}
use Rattle.routes.specs.Routes.{Route}
use Rattle.routes.specs.declared.Routes.{Routes}
use Rattle.routes.specs.declared.Step.{Step}
use Rattle.routes.specs.Routes.{is_reached}
use Rattle.routes.specs.Offer.{Arriving, Arrived}

-- The table from a folio is filled where a route leads there.
pub record FilledFrom (bytes : List ℕ) (g : Galley) (route : Route) (o : ℕ) (w w' : List ℕ) : Type 0 where
  pub long : length w' ≡ length w
  pub tabled : is_reached route ≡ true → Tabled bytes (on_folio o g) w'

-- A galley that was read, and a work area of which each half is as long as it needs.
pub record Halves (bytes : List ℕ) (g : Galley) (half : ℕ) (w : List ℕ) : Type 0 where
  pub sound : Sound bytes g
  pub room : words_needed g.text.count (columns_in g) ≤ half
  pub long : 2 * half ≤ length w

-- Each half holds the table from its folio, where a route leads there.
pub record TwoTables (bytes : List ℕ) (g : Galley) (routes : Routes) (half : ℕ) (w w' : List ℕ) : Type 0 where
  pub long : length w' ≡ length w
  pub one : is_reached routes.one ≡ true → Tabled bytes (on_folio 1 g) (take half w')
  pub two : is_reached routes.two ≡ true → Tabled bytes (on_folio 2 g) (drop half w')

-- Routes can be read from both halves.
pub record Halved (g : Galley) (routes : Routes) (half : ℕ) (w : List ℕ) : Type 0 where
  pub within : half ≤ length w
  pub one : Arriving g routes 1 (take half w) (drop half w)
  pub two : Arriving g routes 2 (take half w) (drop half w)

-- They are read.
pub record Stepped (g : Galley) (routes : Routes) (first : Bool) (half : ℕ) (w : List ℕ) (r : Step × Step) : Type 0 where
  pub one : Arrived g routes first 1 (take half w) (drop half w) r.0
  pub two : Arrived g routes first 2 (take half w) (drop half w) r.1
