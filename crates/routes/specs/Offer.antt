-- What each folio offers the next, by the tables of a chapter from folios 1 and 2, and which offer is taken.
use Rattle.std.specs.Prelude.{ℕ, suc, ◌+◌, ◌*◌, ◌≤◌, ◌<◌, ◌≡◌, Bool, List, ltb}
use Rattle.model.specs.Gather.{pick}
use Rattle.model.specs.Leaf.{ends, sides_of}
use Rattle.theorems.specs.pages.Graph.{side}
use Rattle.galley.specs.declared.Galley.{Galley}
use Rattle.galley.specs.Model.{sides_in}
use Rattle.places.specs.Entry.{Entry, low_of, high_of}
use Rattle.candidates.specs.Read.{table_in}
use Rattle.walk.specs.declared.Stop.{Stop}
use Rattle.walk.specs.Trace.{entry_of}
use Rattle.walk.specs.Traceable.{WorkArea, Traceable}
use Rattle.closings.specs.Chapter.{closing_stop, later_starts, Counted, BothWalk}
use Rattle.routes.specs.declared.Cost.{Cost}
use Rattle.routes.specs.Routes.{Route}
use Rattle.std.specs.Prelude.{None, Some}
use Rattle.routes.specs.declared.Routes.{Routes}
use Rattle.routes.specs.declared.Step.{Step}
use Rattle.routes.specs.Routes.{less}

-- What is turned to a chapter that opens on a folio: nothing to the first of the book (document 02, S-9).
abbrev pub turn_to : Galley → Bool → ℕ → ℕ
turn_to g first folio = pick first 0 (pick (ends (sides_of g.spec.sides folio) 0) g.spec.beta 0)

-- A route that goes on by the best list which closes where an entry is.
abbrev pub passed : Route → ℕ → Entry → Route
passed None turn e = None
passed (Some c) turn None = None
passed (Some c) turn (Some l) =
    Some (record { turns = c.turns + turn + high_of l.cost; white = c.white + low_of l.cost })

-- After k chapters a route costs at most k · 2³³: each chapter adds at most 2³² and a turn.
abbrev pub Cheap : ℕ → Route → Type 0
Cheap k route = (c : Cost) → route ≡ Some c → (c.turns ≤ k * 8589934592) × (c.white ≤ k * 8589934592)

-- The route is one after so few chapters that its costs do not pass 64 bits with one chapter more.
pub record Affordable (route : Route) : Type 0 where
  pub before : ℕ
  pub few : before ≤ 200
  pub cheap : Cheap before route

pub record Payable (route : Route) (turn : ℕ) : Type 0 where
  pub affordable : Affordable route
  pub small : turn < 4294967296

-- It went on so, and its costs kept to their limit.
pub record Passed (route : Route) (turn : ℕ) (e : Entry) (r : Route) : Type 0 where
  pub is : r ≡ passed route turn e
  pub cheap : (k : ℕ) → Cheap k route → Cheap (suc k) r

-- Where a list closes that leads from one folio to another.
abbrev pub closing_from : Galley → ℕ → ℕ → Stop
closing_from g folio next = closing_stop g (side (sides_in g) (folio + next))

-- The work area is long enough to be read, and the folios are 1 and 2.
pub record Offering (g : Galley) (route : Route) (folio next : ℕ) (w : List ℕ) : Type 0 where
  pub lent : WorkArea g w
  pub affordable : Affordable route
  pub some : 1 ≤ folio
  pub few : folio ≤ 2
  pub low : next ≤ 2
  pub light : g.spec.beta ≤ 1000

-- Of the lists that lead from folios 1 and 2 to the next, in the tables of the chapter, the starts of the first are preferred.
abbrev pub later_from : Galley → List ℕ → List ℕ → ℕ → Bool
later_from g w v next = later_starts g w v (closing_from g 1 next) (closing_from g 2 next)

-- Where both offer a route, both tables can be walked.
pub record Comparing (g : Galley) (w v : List ℕ) (next : ℕ) (a b : Route) : Type 0 where
  pub counted : Counted g
  pub low : next ≤ 2
  pub walks : (x y : Cost) → a ≡ Some x → b ≡ Some y → BothWalk g w v (closing_from g 1 next) (closing_from g 2 next)

-- The preferred of two offers: the less dear, and at equal cost that with the later starts.
abbrev pub decided : Bool → Route → Route → Step
decided later None b = record { route = b; from = 2 }
decided later (Some x) None = record { route = Some x; from = 1 }
decided later (Some x) (Some y) =
    pick (less x y) (record { route = Some x; from = 1 })
    (pick (less y x) (record { route = Some y; from = 2 })
    (pick later (record { route = Some x; from = 1 }) (record { route = Some y; from = 2 })))

-- What folio o offers the next.
abbrev pub offer_of : Galley → Route → Bool → ℕ → ℕ → List ℕ → Route
offer_of g route first o next w = passed route (turn_to g first o) (entry_of (table_in g w) (closing_from g o next))

-- The best route to the next folio: none where that does not occur, since work is single-sided.
abbrev pub route_to : Galley → Routes → Bool → ℕ → List ℕ → List ℕ → Step
route_to g routes first next w v =
    pick (ltb g.spec.sides next) (record { route = None; from = 1 })
    (decided (later_from g w v next) (offer_of g routes.one first 1 next w) (offer_of g routes.two first 2 next v))

-- Both work areas are long enough, and where a route leads to a folio its table can be walked.
pub record Arriving (g : Galley) (routes : Routes) (next : ℕ) (w v : List ℕ) : Type 0 where
  pub first : WorkArea g w
  pub second : WorkArea g v
  pub one : Affordable routes.one
  pub two : Affordable routes.two
  pub low : next ≤ 2
  pub light : g.spec.beta ≤ 1000
  pub first_walks : (x : Cost) → routes.one ≡ Some x → Traceable g w
  pub second_walks : (x : Cost) → routes.two ≡ Some x → Traceable g v

-- The best route is found, and its costs keep to their limit.
pub record Arrived (g : Galley) (routes : Routes) (first : Bool) (next : ℕ) (w v : List ℕ) (r : Step) : Type 0 where
  pub is : r ≡ route_to g routes first next w v
  pub cheap : (k : ℕ) → Cheap k routes.one → Cheap k routes.two → Cheap (suc k) r.route
