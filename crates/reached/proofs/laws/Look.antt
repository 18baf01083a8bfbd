-- A column is looked at: its lines and sides one more at a time, that they stand in the work area, and which of them alone are left to look
-- at by what is known of it before.
use Rattle.std.specs.Prelude.{ℕ, ◌+◌, ◌-◌, ◌≤◌, ◌<◌, ◌≡◌, ◌⊎◌, Option, Some, None, List, max}
use Rattle.std.proofs.Math.Decide.{dec_lt}
use Rattle.std.proofs.Common.{arith, inl, inr}
use Rattle.galley.specs.declared.Galley.{Galley}
use Rattle.places.specs.declared.Place.{Place}
use Rattle.places.specs.Table.{table_of}
use Rattle.places.specs.Address.{Small, Stands}
use Rattle.candidates.specs.Cells.{ColumnRoom}
use Rattle.candidates.specs.Read.{table_in}
use Rattle.candidates.proofs.laws.Columns.{columns_few}
use Rattle.candidates.proofs.laws.Read.{stands_in}
use Rattle.reached.specs.Ring.{Present, every_line, HintFor}
use Rattle.reached.specs.declared.look.Reach.{Reach}
use Rattle.reached.specs.Look.{Quiet, Missed, Found, Hinted, Told, ReachFound}

-- One side more is not reached.
pub missed_next : (w : List ℕ) (tall : ℕ) (place : Place) (c : ℕ) → Missed w tall place c
    → table_of tall w place.line place.column c ≡ None → Missed w tall place (c + 1)
missed_next w tall place c none here d l = go (dec_lt d c)
  where
    go : Dec (d < c) → table_of tall w place.line place.column d ≡ None
    go (yes h) = none d h
    go (no h) = let e : d ≡ c = omega arith in rw e here

-- One line more is not reached.
pub quiet_next : {g : Galley} {w : List ℕ} {j n from a : ℕ} → Quiet g w j n from a
    → Missed w (g.text.count + 1) (record { line = a; column = j }) n → Quiet g w j n from (a + 1)
quiet_next {g} {w} {j} {n} {from} {a} quiet missed = record { none = λ b c l m occurs. go b c l m occurs (dec_lt b a) }
  where
    go : (b c : ℕ) → from ≤ b → b < a + 1 → c < n → Dec (b < a) → table_in g w b j c ≡ None
    go b c l m occurs (yes h) = quiet.none b c l h occurs
    go b c l m occurs (no h) = let e : b ≡ a = omega arith in rw e (missed c occurs)

-- So it is from the last line back.
pub quiet_back : {g : Galley} {w : List ℕ} {j n a to : ℕ} → Quiet g w j n a to
    → Missed w (g.text.count + 1) (record { line = a - 1; column = j }) n → Quiet g w j n (a - 1) to
quiet_back {g} {w} {j} {n} {a} {to} quiet missed = record { none = λ b c l m occurs. go b c l m occurs (dec_lt b a) }
  where
    go : (b c : ℕ) → a - 1 ≤ b → b < to → c < n → Dec (b < a) → table_in g w b j c ≡ None
    go b c l m occurs (yes h) = let e : b ≡ a - 1 = omega arith in rw e (missed c occurs)
    go b c l m occurs (no h) = quiet.none b c (omega arith) m occurs

-- A line of a column that has room is one of its places, and stands there on every side that occurs.
module _ {g : Galley} {w : List ℕ} {j : ℕ} (room : ColumnRoom g w j) (a : ℕ) (line : a ≤ g.text.count) where
  pub room_stands : (c : ℕ) → c < g.spec.sides → Stands w (g.text.count + 1) (record { line = a; column = j }) c
  room_stands c occurs =
      stands_in g w a j c room.wide.few room.wide.floats line room.wide.within (omega (arith, room.two)) room.room

  pub room_small : Small a j
  room_small =
      record { line = omega (arith, room.wide.few); column = omega (arith, room.wide.within, columns_few g room.wide.floats) }

-- The lines after those that are known not to be reached need a look alone.
quiet_after : {g : Galley} {w : List ℕ} {j n from mid to : ℕ} → Quiet g w j n from mid → Quiet g w j n (max from mid) to → Quiet g w j n from to
quiet_after {g} {w} {j} {n} {from} {mid} {to} early after = record { none = λ a c l m occurs. go a c l m occurs (dec_lt a mid) }
  where
    go : (a c : ℕ) → from ≤ a → a < to → c < n → Dec (a < mid) → table_in g w a j c ≡ None
    go a c l m occurs (yes h) = early.none a c l h occurs
    go a c l m occurs (no h) = after.none a c (omega arith) m occurs

pub found_after : {g : Galley} {w : List ℕ} {j from mid r : ℕ} → Quiet g w j g.spec.sides from mid → mid ≤ g.text.count
    → Found g w j (max from mid) r → Found g w j from r
found_after early inside found =
    record {
      since = λ l. omega (arith, found.since (omega arith));
      within = found.within;
      quiet = quiet_after early found.quiet;
    }

pub reach_after : {g : Galley} {w : List ℕ} {j from mid : ℕ} → Quiet g w j g.spec.sides from mid → mid ≤ g.text.count → (r : Option Reach)
    → ReachFound g w j (max from mid) r → ReachFound g w j from r
reach_after early inside None quiet = quiet_after early quiet
reach_after early inside (Some r) (line, found) = (
  line,
  record {
    first =
        record {
          since = λ l. omega (arith, found.first.since (omega arith));
          within = found.first.within;
          quiet = quiet_after early found.first.quiet;
        };
    last = found.last;
  },
)

-- What is known of a column holds, whether the ring covers it or not.
pub hint_holds : {g : Galley} {w seen : List ℕ} {since j from x : ℕ} → g.text.count ≤ 4000 → (since ≤ j → Told g w seen j from)
    → HintFor seen since j (Some x) → Hinted g w j from x
hint_holds {g} {w} {seen} {since} {j} {from} {x} few told known = go known
  where
    go : (x ≡ every_line) ⊎ ((since ≤ j) × Present seen j x) → Hinted g w j from x
    go (inl e) =
        record {
          within = omega arith;
          early = record { none = λ a c l m. absurd (omega arith) };
          late = record { none = λ a c l m. absurd (omega arith) };
        }
    go (inr (after, here)) = (told after).hinted x here
