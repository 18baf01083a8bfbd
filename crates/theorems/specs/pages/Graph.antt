-- Pages as a graph: its states are the places where a page may stop, each with the page's side, and one virtual end; a step is
-- a page. A way starts at an origin, and to the end it is the list of the pages after that origin.
use Rattle.std.specs.Prelude.{ℕ, suc, ◌+◌, ◌%◌, ◌≤◌, ◌≡◌, Bool, true, List, [], ◌∷◌}
use Rattle.model.specs.Galley.{Sides, single, double, Galley, Place, zeros, sizes}
use Rattle.model.specs.Answers.{same}
use Rattle.model.specs.Order.{lex, geb, oddly}
use Rattle.model.specs.Best.{allowed}
use Rattle.model.specs.laws.Lists.{Inside}
use Rattle.model.specs.laws.White.{page_white}
use Rattle.theorems.specs.optimality.Graph.{Graph}
use Rattle.theorems.specs.turns.Waiting.{page_cost}
use Rattle.theorems.specs.turns.Rank.{rank}

-- The side of page q: in double-sided work 1 for an odd number and 0 for an even one, which are right-hand and left-hand pages
-- from an odd folio on, and the other way round from an even one; in single-sided work 0.
unfoldable pub side : Sides → ℕ → ℕ
side single q = 0
side (double f) q = q % 2

-- A page stops at a place, on a side. After the last page comes the end.
pub data State : Type 0 where
  stop : Place → ℕ → State
  end : State

-- The place where a state stops.
unfoldable pub place_of : State → Place
place_of (stop v c) = v
place_of end = []

-- Every block is placed: the page that stops here is the last.
unfoldable pub full : Galley → Place → Bool
full g v = same v (sizes g)

-- Where a search begins: the place, the number of pages before it, and what they cost with their white.
pub record Origin : Type 0 where
  pub place : Place
  pub pages : ℕ
  pub cost : ℕ

-- The ordinary origin: nothing placed, no page, nothing paid.
abbrev pub beginning : Galley → Origin
beginning g = record { place = zeros g; pages = 0; cost = 0 }

-- The states of the table: no count passes its stream's size, the side is one that occurs, and no count is below the origin's.
unfoldable pub Within : Galley → Origin → State → Type 0
Within g from (stop v c) = Inside (sizes g) v × (side g.spec.sides c ≡ c) × Inside v from.place
Within g from end = Unit {0}

-- A page from u to v that breaks no rule: the page before it is on side b, and it is on side c, the next.
pub record PageStep (g : Galley) (from : Origin) (u : Place) (b : ℕ) (v : Place) (c : ℕ) : Type 0 where
  pub within : Within g from (stop u b)
  pub next : c ≡ side g.spec.sides (suc b)
  pub may : allowed g c (full g v) u v ≡ true

-- The step to the end: from the full place, on either side.
pub record EndStep (g : Galley) (from : Origin) (u : Place) (b : ℕ) : Type 0 where
  pub within : Within g from (stop u b)
  pub whole : u ≡ sizes g

-- A step is a page, or leads from the full place to the end.
unfoldable pub Step : Galley → Origin → State → State → Type 0
Step g from (stop u b) (stop v c) = PageStep g from u b v c
Step g from (stop u b) end = EndStep g from u b
Step g from end t = ⊥

-- What is added on the way from one state to another: the cost of the page and its white, which depends on where the page
-- starts, as one number; nothing at the end.
unfoldable pub price : Galley → State → State → ℕ
price g (stop u b) (stop v c) = rank (page_cost g c (full g v) v) (page_white g (full g v) u v)
price g (stop u b) end = 0
price g end t = 0

-- Which start is preferred: the later line, then the later float of each stream; at the same place the side of even folios,
-- which at the end is an even last folio (and then the lower number, so that the order is one on all numbers).
unfoldable pub Prefers : Sides → State → State → Type 0
Prefers sides (stop u b) (stop w d) =
    (lex geb u w ≡ true) × (u ≡ w → (oddly sides b ≤ oddly sides d) × (oddly sides b ≡ oddly sides d → b ≤ d))
Prefers sides (stop u b) end = Unit {0}
Prefers sides end (stop w d) = ⊥
Prefers sides end end = Unit {0}

-- The graph of a galley's pages from an origin on.
abbrev pub page_graph : Galley → Origin → Graph
page_graph g from =
    record {
      S = State;
      C = ℕ;
      o = stop from.place (side g.spec.sides from.pages);
      step = Step g from;
      nil = from.cost;
      add = λ u v c. c + price g u v;
      le = λ a b. a ≤ b;
      tie = Prefers g.spec.sides;
    }

-- The number of the page that stops where a way with these starts does.
unfoldable pub page_at : Origin → List State → ℕ
page_at from [] = from.pages
page_at from (s ∷ us) = suc (page_at from us)

-- The pages of the way to a state with these starts, put before `after`.
unfoldable pub pages_to : List State → State → List Place → List Place
pages_to [] t after = after
pages_to (s ∷ us) (stop v c) after = pages_to us s (v ∷ after)
pages_to (s ∷ us) end after = pages_to us s after

-- The list of pages of a way to the end.
abbrev pub pages_on : List State → List Place
pages_on us = pages_to us end []

-- The stops of a list of pages, the last first, put before `after`, where page q stopped at u.
unfoldable pub stops_of : Sides → ℕ → Place → List Place → List State → List State
stops_of sides q u [] after = stop u (side sides q) ∷ after
stops_of sides q u (v ∷ vs) after = stops_of sides (suc q) v vs (stop u (side sides q) ∷ after)

-- The way to the end that a list of pages from the origin on is.
abbrev pub way_of : Galley → Origin → List Place → List State
way_of g from ps = stops_of g.spec.sides from.pages from.place ps []
