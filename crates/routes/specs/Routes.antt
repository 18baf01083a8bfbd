-- The routes as the code keeps them: costs alone, and where each comes from in words of its own.
use Rattle.std.specs.Prelude.{ℕ, ◌+◌, ◌*◌, ◌%◌, ◌≤◌, ◌<◌, ◌≡◌, Bool, true, false, length, get_or, take, drop, eqb, ltb}
use mathlib.Core.List.{List, [], ◌∷◌, reverse_aux}
use Rattle.std.proofs.Math.Option.{Option, none, some}
use Rattle.model.specs.Gather.{pick}
use Rattle.model.specs.Galley as model
use Rattle.theorems.specs.books.Routes as theorems
use Rattle.theorems.specs.books.Routes.{route}
use Rattle.theorems.specs.books.Engine.{comes_from}
use Rattle.routes.specs.declared.Cost.{Cost}
use Rattle.std.specs.Prelude.{None, Some}
use Rattle.std.specs.Prelude as std
use Rattle.routes.specs.declared.Routes.{Routes}

-- What is known of the choices that lead to a folio: none, or what the best of them costs.
abbrev pub Route : Type 0
Route = std.Option Cost

-- What the code keeps of a route.
abbrev pub kept_of : Option theorems.Route → Route
kept_of none = None
kept_of (some r) = Some (record { turns = r.turns; white = r.white })

-- The first cost is the less: by turns, then by white.
abbrev pub less : Cost → Cost → Bool
less a b = pick (eqb a.turns b.turns) (ltb a.white b.white) (ltb a.turns b.turns)

-- Some choice leads there.
abbrev pub is_reached : Route → Bool
is_reached None = false
is_reached (Some c) = true

-- The folio after the best of all choices, where there is one: at equal cost 1, before which the last folio is even.
unfoldable pub best_end : Route → Route → std.Option ℕ
best_end None None = None
best_end None (Some y) = Some 2
best_end (Some x) None = Some 1
best_end (Some x) (Some y) = Some (pick (less y x) 2 1)

-- Before the first chapter one route leads to its folio, at no cost.
abbrev pub first_routes : ℕ → ℕ → Routes
first_routes sides folio =
    let none : Route = Some (record { turns = 0; white = 0 }) in
    pick (eqb sides 2)
    (pick (eqb (folio % 2) 0) (record { one = None; two = none }) (record { one = none; two = None }))
    (record { one = none; two = None })

-- The chapters before number k, the last first.
abbrev pub before : List model.Galley → ℕ → List model.Galley
before gs k = reverse_aux (take k gs) []

-- A word says where the route to the next folio after chapter j comes from, if there is one.
abbrev pub ComesFrom : model.Galley → ℕ → List model.Galley → ℕ → ℕ → ℕ → Type 0
ComesFrom h f gs j next word =
    (g : model.Galley) (r : theorems.Route) → take 1 (drop j gs) ≡ g ∷ [] → route h f (g ∷ before gs j) next ≡ some r
    → word ≡ comes_from h f g (before gs j) next

-- Before chapter k the routes are those of the theorem, and the words of `from` say where those of earlier chapters come from: of chapter j
-- and next folio o the word 2·j + o − 1.
pub record Routed (h : model.Galley) (f : ℕ) (gs : List model.Galley) (k : ℕ) (routes : Routes) (from : List ℕ) : Type 0 where
  pub few : k ≤ length gs
  pub one : routes.one ≡ kept_of (route h f (before gs k) 1)
  pub two : routes.two ≡ kept_of (route h f (before gs k) 2)
  pub long : length from ≡ 400
  pub first : (j : ℕ) → j < k → ComesFrom h f gs j 1 (get_or from (2 * j) 0)
  pub second : (j : ℕ) → j < k → ComesFrom h f gs j 2 (get_or from (2 * j + 1) 0)
