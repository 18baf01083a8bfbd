-- One side of a place: its queues can be moved on, and all starts of the page that ends there are known.
use Rattle.std.specs.Prelude.{ℕ, ◌+◌, ◌*◌, ◌≤◌, ◌<◌, ◌≡◌, false, List, length}
use Rattle.std.proofs.Common.{le_refl, arith, subst, ap}
use Rattle.galley.specs.declared.Galley.{Galley}
use Rattle.galley.specs.Model.{text_of, model_of, sides_in}
use Rattle.blocks.specs.Counts.{Proper}
use Rattle.blocks.specs.laws.Counts.{within_proper}
use Rattle.places.specs.Address.{words_needed}
use Rattle.places.specs.Columns.{columns, float_sizes}
use Rattle.places.proofs.laws.Address.{area_needed}
use Rattle.rules.specs.Parts.{all_placed}
use Rattle.queues.specs.declared.parts.Parts.{Parts}
use Rattle.window.specs.Slide.{white_of}
use Rattle.queues.specs.Queue.{lines_of, Payable}
use Rattle.queues.specs.Parts.{Both, Movable, Moved}
use Rattle.candidates.specs.Beside.{Bears}
use Rattle.candidates.specs.Fronts.{best_front}
use Rattle.candidates.specs.Read.{side_of, search_of, columns_in}
use Rattle.passes.specs.Sweep.{Lent, Scratch}
use Rattle.candidates.proofs.laws.Columns.{columns_in_lem, sought_in}
use Rattle.candidates.proofs.laws.White.{white_lines}
use Rattle.passes.proofs.laws.Sweep.{window_best}
use Rattle.passes.proofs.laws.Lending.{lent_placed, can_move}
use Rattle.passes.proofs.laws.Fronts.{fronts_best, can_front}
use Rattle.pricing.specs.declared.Stop.{Stop}
use Rattle.entries.specs.declared.side.Task.{Task}
use Rattle.entries.specs.declared.side.End.{End}
use Rattle.entries.specs.declared.side.Windows.{Windows}
use Rattle.entries.specs.Fill.{tall, side_count}
use Rattle.entries.specs.Filled.{Roomy}
use Rattle.entries.specs.Next.{plain, Before, own_lines, EntryNext, SideNext}
use Rattle.entries.specs.laws.Entered.{below_side, sides_count}
use Rattle.entries.specs.laws.Costs.{own_costs}
use Rattle.entries.specs.laws.Before.{lines_before}
use Rattle.entries.specs.laws.Own.{under_own, lines_slide, end_within, end_full, end_bears}

-- A work area as long as document 01 asks has the words of every place,
pub needed_roomy : (bytes : List ℕ) (g : Galley) {w : List ℕ} → words_needed g.text.count (columns_in g) ≤ length w → Roomy (model_of bytes g) w
unfolding tall
needed_roomy bytes g room = record { words = rw (columns_in_lem bytes g, area_needed g.text.count (columns_in g)) room }

-- and so has what is lent for a column.
pub lent_roomy : {bytes : List ℕ} {g : Galley} {w : List ℕ} {j : ℕ} → Lent bytes g w j → Roomy (model_of bytes g) w
lent_roomy {bytes} {g} lent = needed_roomy bytes g lent.room

-- A column that is lent is one of the galley's.
pub lent_wide : {bytes : List ℕ} {g : Galley} {w : List ℕ} {j : ℕ} → Lent bytes g w j → j < columns (float_sizes (model_of bytes g))
lent_wide {bytes} {g} lent = omega (arith, columns_in_lem bytes g, lent.column)

-- One side.
module _ {bytes : List ℕ} {task : Task} {w sums words : List ℕ} {parts : Parts} {windows : Windows} {end : End}
    (next : SideNext bytes task w sums words parts windows end) where
  abbrev g : Galley
  g = task.galley

  pub side_either_here : end.side ≤ 1
  side_either_here = omega (arith, next.occurs, next.next.lent.sound.spec_ranged.sides_two)

  -- What is offered costs little.
  costs : Payable (lines_of w (task.galley.text.count + 1) end.column (side_of task.galley end.side)) end.at.lines
  costs =
      own_costs w next.next.lent.sound next.next.cheap next.next.filled end.side next.ending.line next.next.lent.column
      next.occurs

  -- The queues of the column can be moved on.
  pub side_moves : Movable w sums words (own_lines task.galley end) parts windows.from windows.to
  side_moves =
      can_move next.next.lent next.summed next.scratch end.column end.side next.next.lent.column parts windows.from
      windows.to end.at.lines next.ending.line costs next.slides.opened.ends.split next.slides.opened.ends.high
      next.slides.rises (8000 * end.side) (omega (arith, side_either_here)) next.held

  -- All starts of the page that ends there are known.
  pub side_entry : (words' : List ℕ) → length words' ≡ length words → (moved : Parts)
      → Moved w sums words (own_lines task.galley end) parts windows.to moved words' → EntryNext bytes task w sums words' moved end
  side_entry words' sized moved done =
      record {
        next = next.next;
        ending = next.ending;
        turns = next.turns;
        side = below_side (sides_in g) end.side (rw sides next.occurs);
        above =
            record {
              lent = lent;
              begin = next.next.line;
              before = before;
              line = next.ending.line;
              counts = next.ending.counts;
              full = ap (λ (stop : Stop). stop.full) next.ending.stop;
              side = side_either_here;
              summed = next.summed;
              costs = costs;
              front =
                  can_front lent next.summed scratch (plain task) order end.at.lines next.ending.line windows.to
                  next.slides.opened (lines_of w (g.text.count + 1) end.column (side_of g end.side)) (8000 * end.side) end.column moved held done.fresh lent.column
                  (omega (arith, side_either_here)) costs
                  (lines_slide lent next.summed g.spec.htmin task.origin.place.line order windows.to end.at.lines next.ending.line
                  next.slides.opened.ends.low next.slides.opened.ends.split next.slides.opened.ends.high);
              best = λ inner.
                  window_best (search_of bytes g w end.at.lines end.column (side_of g end.side))
                  (sought_in bytes g w end.at.lines end.column (side_of g end.side) (lent_placed lent end.at.lines next.ending.line))
                  end.column (le_refl _) (under_own (model_of bytes g) end.column) (plain task) (bears inner) before windows.to
                  next.slides.opened (white_of (text_of bytes g.text) (plain task) end.at.lines)
                  (white_lines (search_of bytes g w end.at.lines end.column (side_of g end.side)) end.column false (end_full bytes g end next.ending.counts false proper inner) (plain task)
                  (bears inner))
                  (best_front sums words' moved end.column (plain task) end.at.lines)
                  (fronts_best lent next.summed scratch (plain task) order end.at.lines next.ending.line windows.to
                  next.slides.opened (lines_of w (g.text.count + 1) end.column (side_of g end.side)) (8000 * end.side) end.column moved held done.fresh);
            };
        known = next.known;
      }
    where
      lent : Lent bytes g w end.column
      lent = next.next.lent

      scratch : Scratch words'
      scratch = omega (arith, next.scratch, sized)

      before : Before task w end.column (side_of g end.side) end.at.lines
      before = lines_before next.next next.ending.line end.side next.occurs

      order : g.spec.htmin ≤ g.spec.htmax
      order = lent.sound.spec_ranged.htmins

      held : Both (lines_of w (g.text.count + 1) end.column (side_of g end.side)) sums words' (8000 * end.side) moved windows.to
      held =
          subst
          (λ n. Both (lines_of w (g.text.count + 1) end.column (side_of g end.side)) sums words' n moved windows.to)
          next.held.first done.held

      proper : Proper g end.at
      proper = within_proper g (end_within bytes g end next.ending.counts next.ending.line lent.column)

      bears : all_placed g end.at ≡ false
          → Bears (search_of bytes g w end.at.lines end.column (side_of g end.side)) end.column (plain task)
      bears inner = end_bears bytes g end next.ending.counts w (side_of g end.side) false task.origin.place.line inner

      sides : side_count (sides_in g) ≡ g.spec.sides
      sides = sides_count g.spec.sides g.folio lent.sound.spec_ranged.sides_some lent.sound.spec_ranged.sides_two
