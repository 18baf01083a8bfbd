-- What is asked before offers are compared follows from what is known of the tables.
use Rattle.std.specs.Prelude.{ℕ, suc, ◌+◌, ◌*◌, ◌≤◌, ◌<◌, ◌≡◌, refl, Bool, true, false, List}
use Rattle.std.proofs.Common.{le_refl, arith, sym, ◌∙◌, ap, lt-ltb, le-ltb}
use Rattle.model.specs.Gather.{pick}
use Rattle.model.specs.Leaf.{ends, sides_of}
use Rattle.theorems.specs.pages.Graph.{side}
use Rattle.theorems.specs.pages.Sides.{side_side}
use Rattle.galley.specs.declared.Galley.{Galley}
use Rattle.galley.specs.Model.{sides_in}
use Rattle.places.specs.declared.Place.{Place as Start}
use Rattle.places.specs.Entry.{Entry, least, low_of, high_of}
use Rattle.candidates.specs.Read.{table_in}
use Rattle.walk.specs.declared.Stop.{Stop}
use Rattle.walk.specs.Trace.{entry_of}
use Rattle.walk.specs.Traceable.{WorkArea, Visits}
use Rattle.walk.specs.laws.Walk.{columns_in_some}
use Rattle.closings.specs.Chapter.{closing_stop, Counted}
use Rattle.routes.specs.declared.Cost.{Cost}
use Rattle.routes.specs.Routes.{Route}
use Rattle.std.specs.Prelude.{None, Some}
use Rattle.routes.specs.declared.Routes.{Routes}
use Rattle.routes.specs.declared.Step.{Step}
use Rattle.routes.specs.Routes.{less, best_end}
use Rattle.routes.specs.Offer.{turn_to, passed, Cheap, Passed, closing_from, offer_of, Comparing, decided, later_from, route_to, Arriving, Arrived}

-- A list that leads from one folio to another closes on a side that occurs.
pub closing_from_lem : (g : Galley) (o next : ℕ) → Visits g (closing_from g o next)
closing_from_lem g o next =
    record { line = le_refl _; column = omega (arith, columns_in_some g); side = side_side (sides_in g) (o + next) }

-- The counts of a galley whose work area is long enough are within the limits.
pub lent_counted : {g : Galley} {w : List ℕ} → WorkArea g w → Counted g
lent_counted lent = record { lines = lent.lines; floats = lent.floats }

-- What is turned is little.
pub turn_small : (g : Galley) (first : Bool) (o : ℕ) → g.spec.beta ≤ 1000 → turn_to g first o ≤ 1000
turn_small g true o l = omega arith
turn_small g false o l = go (ends _ 0)
  where
    go : (b : Bool) → pick b g.spec.beta 0 ≤ 1000
    go true = l
    go false = omega arith

-- What is offered goes on from a route.
offer_from : (route : Route) (turn : ℕ) (e : Entry) (x : Cost) → passed route turn e ≡ Some x → (c : Cost) × (route ≡ Some c)
offer_from None turn e x is = let z : ◌≡◌ {A = ℕ} 0 1 = cc in absurd (omega arith)
offer_from (Some c) turn e x is = (c, refl)

-- Two offers can be compared.
pub arriving_comparing : {g : Galley} {routes : Routes} {next : ℕ} {w v : List ℕ} → Arriving g routes next w v → (first : Bool) (a b : Route)
    → a ≡ offer_of g routes.one first 1 next w → b ≡ offer_of g routes.two first 2 next v → Comparing g w v next a b
arriving_comparing {g} {routes} {next} {w} {v} asked first a b ea eb =
    record {
      counted = lent_counted asked.first;
      low = asked.low;
      walks = λ x y p q.
          let (c, e) = offer_from routes.one _ _ x (sym ea ∙ p) in
          let (d, f) = offer_from routes.two _ _ y (sym eb ∙ q) in
          record {
            first = record { table = asked.first_walks c e; visits = closing_from_lem g 1 next };
            second = record { table = asked.second_walks d f; visits = closing_from_lem g 2 next };
          };
    }

-- The preferred of two cheap offers is cheap.
pub decided_cheap : (k : ℕ) (later : Bool) (a b : Route) → Cheap k a → Cheap k b → Cheap k (decided later a b).route
decided_cheap k later None b p q = q
decided_cheap k later (Some x) None p q = p
decided_cheap k later (Some x) (Some y) p q = go (less x y) (less y x) later
  where
    go : (s t u : Bool)
        → Cheap k (pick {A = Step} s (record { route = Some x; from = 1 }) (pick t (record { route = Some y; from = 2 })
        (pick u (record { route = Some x; from = 1 }) (record { route = Some y; from = 2 })))).route
    go true t u = p
    go false true u = q
    go false false true = p
    go false false false = q

-- No route is cheap.
pub none_cheap : (k : ℕ) → Cheap k None
none_cheap k c e = let z : ◌≡◌ {A = ℕ} 0 1 = cc in absurd (omega arith)

-- So is one whose costs keep to the limit.
pub least_cheap : (k : ℕ) (x : Cost) → x.turns ≤ k * 8589934592 → x.white ≤ k * 8589934592 → Cheap k (Some x)
least_cheap k x t w c e = let is : x ≡ c = cc in rw (← is) (t, w)

-- The best end, where both folios are reached.
pub end_both : {a b : Route} {x y : Cost} (t : Bool) → a ≡ Some x → b ≡ Some y → t ≡ less y x → Some (pick t 2 1) ≡ best_end a b
unfolding best_end
end_both t p q e = rw (p, q, e)

-- What is turned to a later chapter.
pub turn_later : (g : Galley) {first : Bool} (o : ℕ) (t : Bool) → first ≡ false → t ≡ ends (sides_of g.spec.sides o) 0
    → pick t g.spec.beta 0 ≡ turn_to g first o
turn_later g o t p e = rw (p, e)

-- A route goes on by the entry that was read where a list closes.
pub passed_from : (g : Galley) {route r : Route} {turn : ℕ} {e : Entry} (first : Bool) (o next : ℕ) (w : List ℕ) (c : ℕ) (at : Stop)
    → c ≡ side (sides_in g) (o + next) → at ≡ closing_stop g c → e ≡ entry_of (table_in g w) at → turn ≡ turn_to g first o → Passed route turn e r
    → Passed route (turn_to g first o) (entry_of (table_in g w) (closing_from g o next)) r
passed_from g first o next w c at ec ea ee et p = rw (et, ee, ea, ec) at p

-- A route that leads to a folio goes on by an entry that is reached.
pub passed_least : {route : Route} {e : Entry} {x : Cost} {v : ℕ} {s : Start} (turn t w : ℕ) → route ≡ Some x → e ≡ least v s
    → t ≡ high_of v → w ≡ low_of v → Some (record { turns = x.turns + turn + t; white = x.white + w }) ≡ passed route turn e
passed_least turn t w p q et ew = rw (p, q, et, ew) refl

-- The preferred of two offers, where there is one or none,
pub decided_second : {a : Route} (b : Route) (later : Bool) → a ≡ None → record { route = b; from = 2 } ≡ decided later a b
decided_second b later p = rw p refl

pub decided_first : {a b : Route} {x : Cost} (later : Bool) → a ≡ Some x → b ≡ None → record { route = Some x; from = 1 } ≡ decided later a b
decided_first later p q = rw (p, q) refl

-- and where there are two.
pub decided_both : {a b : Route} {x y : Cost} (s t u : Bool) {later : Bool} → a ≡ Some x → b ≡ Some y → s ≡ less x y → t ≡ less y x → u ≡ later
    → pick s (record { route = Some x; from = 1 }) (pick t (record { route = Some y; from = 2 })
    (pick u (record { route = Some x; from = 1 }) (record { route = Some y; from = 2 })))
    ≡ decided later a b
decided_both s t u p q es et eu = rw (p, q, es, et, eu) refl

-- The route to the next folio, where that does not occur
pub arrived_none : {g : Galley} {routes : Routes} {first : Bool} {next : ℕ} {w v : List ℕ} → g.spec.sides < next
    → Arrived g routes first next w v (record { route = None; from = 1 })
arrived_none {g} {next = next} l = record { is = rw (lt-ltb g.spec.sides next l) refl; cheap = λ k p q. none_cheap _ }

-- and where it does.
pub arrived_best : {g : Galley} {routes : Routes} {first : Bool} {next : ℕ} {w v : List ℕ} {r : Step} (a b : Route) → next ≤ g.spec.sides
    → Passed routes.one (turn_to g first 1) (entry_of (table_in g w) (closing_from g 1 next)) a
    → Passed routes.two (turn_to g first 2) (entry_of (table_in g v) (closing_from g 2 next)) b
    → r ≡ decided (later_from g w v next) a b → Arrived g routes first next w v r
arrived_best {g} {routes} {first} {next} {w} {v} {r} a b l p q e =
    record {
      is = e ∙ ap (λ a. decided (later_from g w v next) a b) p.is ∙ ap (λ b. decided (later_from g w v next) (offer_of g routes.one first 1 next w) b) q.is ∙ sym whole;
      cheap = λ k h t. rw e (decided_cheap (suc k) (later_from g w v next) a b (p.cheap k h) (q.cheap k t));
    }
  where
    whole : route_to g routes first next w v
        ≡ decided (later_from g w v next) (offer_of g routes.one first 1 next w) (offer_of g routes.two first 2 next v)
    whole = rw (le-ltb g.spec.sides next l) refl
