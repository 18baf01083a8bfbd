-- The lines of a column before its first start: nothing in them is past the origin, or nothing was found to start there, so that they are
-- left as they are.
use Prim.Native.Nat.{ℕ, suc, ◌+◌, ◌-◌, ◌≤◌, ◌<◌}
use Rattle.std.proofs.Common.{le_refl, sym, ◌∙◌, inl, inr}
use native.Mathlib.Omega.{arith}
use Rattle.std.specs.Prelude.{◌≡◌, List}
use Rattle.galley.specs.declared.Galley.{Galley}
use Rattle.galley.specs.Model.{model_of, sides_in}
use Rattle.places.specs.declared.Place.{Place}
use Rattle.places.specs.Entry.{least}
use Rattle.places.specs.Order.{Earlier}
use Rattle.places.proofs.laws.Best.{no_reach}
use Rattle.candidates.specs.Cells.{ColumnRoom, Blank}
use Rattle.candidates.specs.Read.{table_in}
use Rattle.reached.specs.Look.{Quiet, Found}
use Rattle.candidates.proofs.laws.Clean.{empty_unreached}
use Rattle.passes.proofs.laws.Look.{quiet_then, known_before}
use Rattle.entries.specs.declared.side.Task.{Task}
use Rattle.filling.specs.Fill.{fill_column}
use Rattle.entries.specs.Filled.{Side, Filled}
use Rattle.entries.specs.Next.{Next}
use Rattle.filling.specs.Next.{Begun, Gathered, Still}
use Rattle.entries.specs.laws.Entered.{side_below}
use Rattle.filling.specs.laws.Still.{lines_still}
use Rattle.entries.specs.laws.Before.{sides, columns_past}

-- No line of an empty column is reached.
pub blank_found : {g : Galley} {w : List ℕ} {j : ℕ} → ColumnRoom g w j → Blank g w j → (from : ℕ) → Found g w j from (g.text.count + 1)
blank_found {g} {w} {j} asked blank from =
    record {
      since = λ l. l;
      within = le_refl _;
      quiet = record {
        none = λ a c l m occurs.
            empty_unreached g j asked.wide.within asked.two w a c asked.room (omega arith) occurs (blank a c (omega arith) occurs);
      };
    }

-- The lines before the first start.
module _ {bytes : List ℕ} {task : Task} {w sums words : List ℕ} {j first : ℕ} (last : Gathered bytes task w sums words j)
    (begun : Begun task w j first) where
  abbrev next : Next bytes task w 0 j
  next = last.column.next

  within : first ≤ suc task.galley.text.count
  within = omega (arith, begun.found.within)

  -- None is reached,
  pub lines_quiet : Quiet task.galley w j task.galley.spec.sides 0 first
  lines_quiet = quiet_then (known_before next.lent (columns_past next) last.known) begun.found.quiet

  -- so that the entries above the first start are all that is filled;
  pub first_filled : Filled (model_of bytes task.galley) task.origin (table_in task.galley w) first j
  first_filled = record { entered = λ a b c x s l h k e. next.filled.entered a b c x s (before a b c x s k e l) h k e }
    where
      before : (a b c x : ℕ) (s : Place) → Side (sides_in task.galley) c → table_in task.galley w a b c ≡ least x s → Earlier a b first j → Earlier a b 0 j
      before a b c x s k e (inl l) = inl l
      before a b c x s k e (inr (p, l)) =
          absurd
          (no_reach (sym (lines_quiet.none a c (omega arith) l (rw (← sides next) (side_below (sides_in task.galley) c k))) ∙ (rw p at e)))

  -- and nothing reaches one of them.
  first_still : Still bytes task w j 0 first
  first_still =
      record {
        lent = next.lent;
        within = within;
        quiet = lines_quiet;
        waits = λ k c l m n. last.known k c l m;
        clean = last.clean;
        later = λ i l. begun.later i;
        above = λ i a c x f l m. absurd (omega arith);
      }

  -- The column is filled from its first start on.
  pub column_from : fill_column (model_of bytes task.galley) task.origin j (suc task.galley.text.count - first) first w
      ≡ fill_column (model_of bytes task.galley) task.origin j (suc task.galley.text.count) 0 w
  column_from =
      let all : suc task.galley.text.count - 0 ≡ suc task.galley.text.count = omega arith in
      sym (rw all at (lines_still first_still (omega arith)))

  -- Where there is none it is filled.
  pub column_none : task.galley.text.count < first
      → w ≡ fill_column (model_of bytes task.galley) task.origin j (suc task.galley.text.count) 0 w
  unfolding fill_column
  column_none l =
      let none : suc task.galley.text.count - first ≡ 0 = omega arith in
      rw none at column_from
