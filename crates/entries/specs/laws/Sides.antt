-- The sides of a place one after another: the queues move on, the entries are stored, and what is known stays known.
use Prim.Native.Nat.{ℕ, suc, ◌+◌, ◌*◌, ◌≤◌, ◌<◌}
use Rattle.std.proofs.Common.{le_refl, ◌∙◌}
use native.Mathlib.Omega.{arith}
use Rattle.std.specs.Prelude.{◌≡◌, refl, Bool, List}
use Rattle.std.proofs.Math.Path.{ap}
use Rattle.std.proofs.Math.ListN.{length}
use Rattle.galley.specs.Model.{model_of}
use Rattle.queues.specs.declared.parts.Parts.{Parts}
use Rattle.queues.specs.Parts.{parts_of, Moved}
use Rattle.queues.proofs.laws.Parts.{row_length}
use Rattle.candidates.specs.Search.{new_entry}
use Rattle.candidates.specs.Read.{table_in, side_of}
use Rattle.passes.specs.Sweep.{Lent}
use Rattle.candidates.specs.Cells.{Changed}
use Rattle.candidates.proofs.laws.Cells.{stored_changes}
use Rattle.passes.proofs.laws.Cells.{knows_other}
use Rattle.candidates.proofs.laws.Read.{side_either}
use Rattle.entries.specs.declared.side.Task.{Task}
use Rattle.entries.specs.declared.side.End.{End}
use Rattle.entries.specs.declared.side.Windows.{Windows}
use Rattle.entries.specs.Fill.{tall, fill_side, fill_sides, fill_place}
use Rattle.pricing.specs.Stop.{turns_on}
use Rattle.entries.specs.Next.{SideNext, SideFilled, PlaceNext, PlaceFilled}
use Rattle.entries.specs.Run.{SidesRun}
use Rattle.entries.specs.laws.Entered.{sides_count}
use Rattle.entries.specs.laws.Costs.{lent_filled}
use Rattle.entries.specs.laws.Fill.{length_side, filled_keeps}
use Rattle.entries.specs.laws.Price.{dearest_light}
use Rattle.entries.specs.laws.Queues.{ends_put, queues_round, queues_same, queues_next}
use Rattle.entries.specs.laws.Side.{lent_roomy, lent_wide}

-- One side after another.
module _ {bytes : List ℕ} {task : Task} {w₀ sums words₀ ends₀ : List ℕ} {windows : Windows} {end : End}
    (next : PlaceNext bytes task w₀ sums words₀ ends₀ windows end) where
  two : task.galley.spec.sides ≤ 2
  two = next.next.lent.sound.spec_ranged.sides_two

  few : end.at.lines ≤ 4000
  few = omega (arith, next.ending.line, next.next.lent.sound.few_lines)

  pub sides_first : SidesRun bytes task w₀ w₀ sums words₀ words₀ ends₀ ends₀ windows end 0
  unfolding fill_sides
  sides_first =
      let z : 2 * end.at.lines + 0 ≡ 2 * end.at.lines = omega arith in
      record {
        within = omega arith;
        sized = refl;
        words_sized = refl;
        ends_sized = refl;
        filled = refl;
        entries = next.next.filled;
        queued = next.queued;
        waits = rw z next.waits;
      }

  module _ {w words ends : List ℕ} {c : ℕ} (run : SidesRun bytes task w₀ w sums words₀ words ends₀ ends windows end c) where
    -- The place is filled once all sides are.
    pub sides_last : task.galley.spec.sides ≤ c → PlaceFilled bytes task w₀ w sums words ends windows end
    unfolding fill_place
    sides_last l =
        let sides =
        sides_count task.galley.spec.sides task.galley.folio next.next.lent.sound.spec_ranged.sides_some two in
        let all : c ≡ task.galley.spec.sides = omega (arith, run.within) in
        record {
          filled = rw sides (rw all at run.filled);
          queued = queues_round run.queued l;
          waits = λ k d h m n. run.waits k d h m (omega (arith, run.within, two));
        }

    module _ (occurs : c < task.galley.spec.sides) (turns : Bool) (told : turns ≡ turns_on task.galley c) where
      low : c ≤ 1
      low = omega (arith, two)

      lent : Lent bytes task.galley w end.column
      lent =
          lent_filled w next.next.lent.sound next.next.cheap run.entries next.next.lent.column
          (omega (arith, next.next.lent.room, run.sized))

      -- The next side can be filled.
      pub sides_side : SideNext bytes task w sums words (parts_of ends c) windows
          (record { at = end.at; column = end.column; side = c; turns = turns; waiting = end.waiting; stop = end.stop })
      sides_side =
          record {
            next =
                record { lent = lent; cheap = next.next.cheap; limited = next.next.limited; line = next.next.line; origin = next.next.origin; filled = run.entries };
            ending = record { line = next.ending.line; counts = next.ending.counts; found = next.ending.found; stop = next.ending.stop };
            summed = next.summed;
            scratch = omega (arith, next.scratch, run.words_sized);
            slides = next.slides;
            occurs = occurs;
            turns = told;
            held = run.queued.still c (le_refl c) occurs;
            known = run.waits end.at.lines c next.ending.line occurs (le_refl (2 * end.at.lines + c));
          }

      -- The ends of its queues are words.
      pub sides_small : (words' : List ℕ) (r : Parts)
          → Moved w sums words (record { tall = task.galley.text.count + 1; column = end.column; side = side_of task.galley c })
          (parts_of ends c) windows.to r words'
          → (r.full.head ≤ 16000) × (r.full.tail ≤ 16000) × (r.rest.head ≤ 16000) × (r.rest.tail ≤ 16000)
      sides_small words' r done =
          let full = done.held.full in
          let rest = done.held.rest in
          let split = next.slides.opened.ends.split in
          let high = next.slides.opened.ends.high in
          let first = done.held.first in
          let second = done.held.second in
          let all = few in
          let side = low in (
            omega (arith, full.order, full.short),
            omega (arith, full.short),
            omega (arith, rest.order, rest.short),
            omega (arith, rest.short),
          )

      -- With it filled, one side more is.
      pub sides_next : (v words' : List ℕ) → length words' ≡ length words → (r : Parts)
          → SideFilled bytes task w v sums words words' (parts_of ends c) windows
          (record { at = end.at; column = end.column; side = c; turns = turns; waiting = end.waiting; stop = end.stop }) r
          → SidesRun bytes task w₀ v sums words₀ words' ends₀ (ends_put ends c r) windows end (c + 1)
      unfolding fill_sides fill_side tall
      sides_next v words' sized r done =
          let n : c + 1 ≡ suc c = omega arith in
          let m = model_of bytes task.galley in
          let rises = next.slides.rises in
          let opened = next.slides.opened.ends in
          let long = ap length done.filled ∙ length_side m task.origin end.at.lines end.column c w in
          record {
            within = omega arith;
            sized = long ∙ run.sized;
            words_sized = sized ∙ run.words_sized;
            ends_sized = row_length ends c _ _ _ _ ∙ run.ends_sized;
            filled = rw n (done.filled ∙ ap (fill_side m task.origin end.at.lines end.column c) run.filled);
            entries =
                rw done.filled
                (filled_keeps m (dearest_light bytes task.galley lent.sound) task.origin end.at.lines end.column next.ending.line
                (lent_wide lent) c w (lent_roomy lent) low run.entries);
            queued =
                queues_same
                (queues_next run.queued two occurs (omega (arith, rises.split, opened.split, few)) (omega (arith, rises.high, opened.high, few))
                (omega (arith, opened.split, few)) (omega (arith, opened.high, few)) words' r done.moved) v end.at.lines
                (omega (arith, rises.split, opened.split)) (omega (arith, rises.high, opened.high)) opened.split opened.high
                (λ a d l.
                changed.others a end.column (side_of task.galley d) (omega (arith, next.ending.line)) (side_either task.galley d)
                (λ q. omega (arith, q.0)));
            waits = λ k d l m p.
                knows_other changed lent.sound.few_lines next.ending.line low two bytes k d 0 l (omega (arith, two)) (λ q.
                omega (arith, q.0, q.1)) (run.waits k d l m (omega arith));
          }
        where
          changed : Changed task.galley w v end.at.lines end.column c
              (new_entry (model_of bytes task.galley) task.origin (table_in task.galley w) end.at.lines end.column c)
          changed =
              stored_changes task.galley w end.at.lines end.column c next.ending.line lent.column occurs two lent.room
              (new_entry (model_of bytes task.galley) task.origin (table_in task.galley w) end.at.lines end.column c) v done.filled
