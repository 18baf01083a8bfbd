-- The columns one after another, in words that are cleared: what is left makes of the words what the whole makes of those at the start.
use Prim.Native.Nat.{ℕ, zero, suc, ◌+◌, ◌-◌, ◌≤◌, ◌<◌}
use native.Mathlib.Omega.{arith}
use Rattle.std.specs.Prelude.{◌≡◌, refl, List, None}
use Rattle.std.proofs.Math.Path.{sym, ap}
use Rattle.std.proofs.Common.{◌∙◌}
use Rattle.std.proofs.Math.ListN.{length}
use Rattle.galley.specs.declared.Galley.{Galley}
use Rattle.galley.specs.Model.{model_of, sides_in}
use Rattle.places.specs.declared.Origin.{Origin}
use Rattle.places.specs.Address.{address, words_needed}
use Rattle.places.specs.Entry.{boundless, stored, cleared}
use Rattle.places.proofs.laws.Address.{address_in, area_needed}
use Rattle.places.proofs.laws.Cleared.{cleared_length, cleared_empty}
use Rattle.places.specs.Columns.{columns, float_sizes}
use Rattle.candidates.specs.Cells.{Scratched, fresh, Blank}
use Rattle.candidates.specs.Read.{table_in, columns_in}
use Rattle.candidates.proofs.laws.Cells.{scratched_then}
use Rattle.candidates.proofs.laws.Clean.{blank_kept}
use Rattle.reached.specs.Ring.{Named}
use Rattle.candidates.proofs.laws.Columns.{columns_in_lem}
use Rattle.entries.specs.declared.side.Task.{Task}
use Rattle.reached.specs.declared.recall.Recall.{Recall}
use Rattle.entries.specs.Fill.{tall, side_count, fill_place}
use Rattle.filling.specs.Fill.{fill_column, fill_columns, filled}
use Rattle.filling.specs.Next.{ColumnNext, Fillable, TableNext}
use Rattle.filling.specs.Recall.{ColumnTurn, ColumnFilled}
use Rattle.filling.specs.Run.{ColumnsRun}
use Rattle.entries.specs.laws.Costs.{lent_filled}
use Rattle.filling.specs.laws.Column.{filled_scratched}
use Rattle.entries.specs.laws.Entered.{sides_count}
use Rattle.filling.specs.laws.Fill.{length_column, filled_next, filled_to}
use Rattle.entries.specs.laws.Price.{dearest_light}
use Rattle.entries.specs.laws.Side.{needed_roomy, lent_roomy, lent_wide}
use Rattle.filling.specs.laws.Skip.{filled_none, columns_left}

-- As many words can be filled from the same origin, within another limit.
pub fillable_as : {bytes : List ℕ} {g : Galley} {from : Origin} {w : List ℕ} → Fillable bytes g from w → (limit : ℕ) → limit ≤ boundless
    → (v : List ℕ) → length v ≡ length w
    → Fillable bytes g (record { place = from.place; pages = from.pages; cost = from.cost; limit = limit }) v
fillable_as fillable limit low v long =
    record {
      sound = fillable.sound;
      cheap = fillable.cheap;
      limited = low;
      line = fillable.line;
      origin = fillable.origin;
      room = rw long fillable.room;
    }

-- A table in words that were cleared.
module _ {bytes : List ℕ} {g : Galley} {from : Origin} {w : List ℕ} (fillable : Fillable bytes g from w) (v : List ℕ)
    (clear : v ≡ cleared (words_needed g.text.count (columns_in g)) w) where
  -- It can be filled,
  pub cleared_fillable : Fillable bytes g from v
  cleared_fillable =
      fillable_as fillable from.limit fillable.limited v
      (ap length clear ∙ cleared_length (words_needed g.text.count (columns_in g)) w fillable.room)

  -- every column is empty,
  pub cleared_blank : (b : ℕ) → b < columns_in g → Blank g v b
  cleared_blank b l k c h occurs =
      let side : c ≤ 1 = omega (arith, fillable.sound.spec_ranged.sides_two) in
      let at = address_in (g.text.count + 1) k b c (columns_in g) (omega arith) l side in
      rw clear
      (cleared_empty (words_needed g.text.count (columns_in g)) (address (g.text.count + 1) k b c) w (omega (arith, at, area_needed g.text.count (columns_in g)))
      fillable.room)

  -- and with its columns filled it is the whole.
  pub cleared_whole : {u : List ℕ} → u ≡ fill_columns (model_of bytes g) from (columns_in g) 0 v → u ≡ filled (model_of bytes g) from w
  unfolding filled tall
  cleared_whole e = rw (columns_in_lem bytes g, area_needed g.text.count (columns_in g)) (rw clear at e)

-- To fill a column is to store in it.
column_scratched : (bytes : List ℕ) (task : Task) (j : ℕ) → 1 ≤ task.galley.spec.sides → task.galley.spec.sides ≤ 2 → (k i : ℕ) (w : List ℕ)
    → k + i ≡ suc task.galley.text.count
    → Scratched task.galley j w (fill_column (model_of bytes task.galley) task.origin j k i w)
unfolding fill_column fill_place
column_scratched bytes task j some two zero i w e = fresh
column_scratched bytes task j some two (suc k) i w e =
    let g = task.galley in
    let m = model_of bytes g in
    let sides = sides_count g.spec.sides g.folio some two in
    scratched_then g j w (fill_place m task.origin i j w) _
    (unfold fill_place in filled_scratched bytes task w i j (side_count (sides_in g)) (omega arith) (omega (arith, sides)))
    (column_scratched bytes task j some two k (suc i) (fill_place m task.origin i j w) (omega arith))

-- One column after another.
module _ {bytes : List ℕ} {task : Task} {w₀ sums words₀ : List ℕ} (table : TableNext bytes task w₀ sums words₀) where
  -- At first no column is filled, and none before the origin's need be.
  pub columns_first : (seen : List ℕ) → length seen ≡ 68 → Named seen 0
      → ColumnsRun bytes task w₀ w₀ words₀ words₀ seen (record { since = task.origin.place.column; head = 0 }) task.origin.place.column
  unfolding tall
  columns_first seen ring named =
      let g = task.galley in
      let m = model_of bytes g in
      let from = task.origin in
      let sound = table.fillable.sound in
      let spec = sound.spec_ranged in
      let wide : from.place.column < columns (float_sizes m) = omega (arith, table.fillable.origin, columns_in_lem bytes g) in
      let light = dearest_light bytes g sound in
      let room = needed_roomy bytes g table.fillable.room in
      let sides = sides_count g.spec.sides g.folio spec.sides_some spec.sides_two in
      let empty : (a b c : ℕ) → a ≤ g.text.count → b < columns (float_sizes m) → c < side_count (sides_in g)
      → stored w₀ (address (g.text.count + 1) a b c) None ≡ w₀ =
      λ a b c h l k. table.blank b (omega (arith, columns_in_lem bytes g)) a c h (omega (arith, sides)) in
      let rest : from.place.column + (columns_in g - from.place.column) ≡ columns_in g = omega (arith, table.fillable.origin) in
      record {
        within = omega (arith, table.fillable.origin);
        sized = refl;
        words_sized = refl;
        ring = ring;
        entries = filled_none m light from wide w₀ room empty 0 from.place.column wide;
        run = sym (rw rest at (columns_left m light from wide w₀ room empty from.place.column 0 (columns_in g - from.place.column) (omega arith)));
        blank = λ b l h. table.blank b h;
        recalled = record { told = λ b l before. absurd (omega arith); named = λ b x here. omega (arith, named b x here) };
        head = omega arith;
      }

  module _ {w words seen : List ℕ} {recall : Recall} {j : ℕ} (run : ColumnsRun bytes task w₀ w words₀ words seen recall j) where
    -- After the last column the table is filled.
    pub columns_done : columns_in task.galley ≤ j
        → w ≡ fill_columns (model_of bytes task.galley) task.origin (columns_in task.galley) 0 w₀
    unfolding fill_columns
    columns_done l =
        let n : columns_in task.galley - j ≡ 0 = omega (arith, run.within) in
        rw n at run.run

    module _ (some : j < columns_in task.galley) where
      -- The next column can be filled,
      columns_column : ColumnNext bytes task w sums words j
      columns_column =
          record {
            next =
                record {
                  lent =
                      lent_filled w table.fillable.sound table.fillable.cheap run.entries some
                      (omega (arith, table.fillable.room, run.sized));
                  cheap = table.fillable.cheap;
                  limited = table.fillable.limited;
                  line = table.fillable.line;
                  origin = table.fillable.origin;
                  filled = run.entries;
                };
            summed = table.summed;
            scratch = omega (arith, table.scratch, run.words_sized);
          }

      pub columns_turn : ColumnTurn bytes task w sums words seen j recall
      columns_turn = record { column = columns_column; blank = run.blank j (omega arith) some; recalled = run.recalled; head = run.head }

      -- and is.
      pub columns_next : (v words' seen' : List ℕ) (r : Recall) → length words' ≡ length words → length seen' ≡ length seen
          → ColumnFilled bytes task w v seen' j r
          → ColumnsRun bytes task w₀ v words₀ words' seen' r (j + 1)
      unfolding fill_columns tall
      columns_next v words' seen' r sized turned done =
          let e = done.filled in
          let g = task.galley in
          let m = model_of bytes g in
          let lent = columns_column.next.lent in
          let light = dearest_light bytes g lent.sound in
          let s : j + 1 ≡ suc j = omega arith in
          let rest : columns_in g - j ≡ suc (columns_in g - suc j) = omega arith in
          let whole = filled_to m light task.origin j (lent_wide lent) (suc g.text.count) 0 w (omega arith) (lent_roomy lent) run.entries in
          let next = filled_next m light task.origin (table_in g (fill_column m task.origin j (suc g.text.count) 0 w)) j whole in
          record {
            within = omega arith;
            sized = ap length e ∙ length_column m task.origin j (suc g.text.count) 0 w ∙ run.sized;
            words_sized = sized ∙ run.words_sized;
            ring = turned ∙ run.ring;
            entries = rw (s, e) next;
            run = rw (s, e) (rw rest at run.run);
            blank = λ b l h.
                rw e
                (blank_kept g j some lent.sound.spec_ranged.sides_two w _ b lent.room h (λ q. omega arith)
                (column_scratched bytes task j lent.sound.spec_ranged.sides_some lent.sound.spec_ranged.sides_two (suc g.text.count) 0 w
                (omega arith)) (run.blank b (omega arith) h));
            recalled = done.recalled;
            head = done.head;
          }
