-- One chapter more: the routes after it are right where those before it are.
use Rattle.std.specs.Prelude.{ℕ, ◌+◌, ◌*◌, ◌≤◌, ◌≡◌, refl, List, take, drop, set, eqb, Err, Ok}
use Rattle.std.proofs.Common.{arith, sym, ◌∙◌, ap, subst}
use Rattle.model.specs.Galley as model
use Rattle.theorems.specs.books.Turns.{Alike, no_chapter}
use Rattle.theorems.specs.books.Routes.{route}
use Rattle.galley.specs.declared.Galley.{Galley}
use Rattle.galley.specs.Whole.{galley_of, Reading}
use Rattle.galley.specs.Model.{model_of}
use Rattle.galley.proofs.laws.Sound.{sound}
use Rattle.routes.specs.declared.Routes.{Routes}
use Rattle.routes.specs.declared.Step.{Step}
use Rattle.routes.specs.Routes.{kept_of}
use Rattle.routes.specs.Offer.{route_to, Arrived}
use Rattle.routes.specs.Tables.{Halves, TwoTables, Halved, Stepped}
use Rattle.routes.specs.Next.{NextRoom, Arrives, Onward}
use Rattle.routes.specs.laws.Tables.{tables_halved}
use Rattle.routes.specs.laws.Arrive.{arrived_right}

-- Bytes hold one galley.
pub galley_same : (bytes : List ℕ) (g d : Galley) → galley_of bytes ≡ Ok g → galley_of bytes ≡ Ok d → d ≡ g
galley_same bytes g d p q = ap galley_in (sym q ∙ p)
  where
    galley_in : Reading → Galley
    galley_in (Ok e) = e
    galley_in (Err r) = g

module _ {bytes : List ℕ} {k : ℕ} {routes : Routes} {half : ℕ} {w from : List ℕ} (room : NextRoom bytes k routes half w from) {g : Galley}
    (holds : galley_of bytes ≡ Ok g) where
  -- Each half of the work area is long enough for the chapter,
  pub next_halves : Halves bytes g half w
  next_halves = record { sound = sound bytes g holds; room = room.room g holds; long = room.long }

  module _ {w' : List ℕ} (tables : TwoTables bytes g routes half w w') where
    -- and once both are filled the routes can be read.
    pub next_halved : Halved g routes half w'
    next_halved = tables_halved next_halves tables (omega (arith, room.few)) room.one room.two

    arrives : (h : model.Galley) (f : ℕ) (rs : List model.Galley) (next : ℕ) → 1 ≤ next → next ≤ 2 → Alike h (model_of bytes g)
        → no_chapter rs ≡ eqb k 0 → routes.one ≡ kept_of (route h f rs 1) → routes.two ≡ kept_of (route h f rs 2) → (r : Step)
        → Arrived g routes (eqb k 0) next (take half w') (drop half w') r → Arrives h f (model_of bytes g) rs next r
    arrives h f rs next low high a first one two r arrived =
        arrived_right h f rs a (sound bytes g holds) one two tables.one tables.two next low high r
        (arrived.is ∙ ap (λ b. route_to g routes b next (take half w') (drop half w')) (sym first))

    pub onward_next : (steps : Step × Step) → Stepped g routes (eqb k 0) half w' steps
        → Onward bytes k routes from (record { one = steps.0.route; two = steps.1.route }) (set (set from (2 * k) steps.0.from) (2 * k + 1) steps.1.from)
    onward_next steps stepped =
        record {
          first = steps.0;
          second = steps.1;
          one = refl;
          two = refl;
          kept = refl;
          cheap_one = stepped.one.cheap k room.one room.two;
          cheap_two = stepped.two.cheap k room.one room.two;
          right = λ h f rs d is a first one two.
              let same = galley_same bytes g d holds is in
              let a' : Alike h (model_of bytes g) = subst (λ d. Alike h (model_of bytes d)) same a in
              subst (λ (d : Galley). Arrives h f (model_of bytes d) rs 1 steps.0 × Arrives h f (model_of bytes d) rs 2 steps.1) (sym same) (
                arrives h f rs 1 (omega arith) (omega arith) a' first one two steps.0 stepped.one,
                arrives h f rs 2 (omega arith) (omega arith) a' first one two steps.1 stepped.two,
              );
        }
