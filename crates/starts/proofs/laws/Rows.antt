-- The rows one after another: back from that of the column where pages end, until its figures are too tall.
use Rattle.std.specs.Prelude.{ℕ, suc, ◌+◌, ◌-◌, ◌≤◌, ◌<◌, ◌≡◌, refl, Bool, false, ◌||◌, List, length}
use Rattle.std.proofs.Common.{arith, ◌∙◌}
use Rattle.model.specs.Rules.{floor}
use Rattle.galley.specs.declared.Galley.{Galley}
use Rattle.galley.specs.Model.{floats_of, model_of}
use Rattle.galley.proofs.laws.Pick.{or_false}
use Rattle.blocks.specs.declared.Counts.{Counts}
use Rattle.blocks.specs.declared.heights.Heights.{Heights}
use Rattle.blocks.specs.Heights.{no_heights, Room, Stacked, block_before}
use Rattle.blocks.specs.laws.Heights.{stacked_nothing, stacked_room, back_stacked}
use Rattle.starts.specs.declared.sweep.Begin.{Begin}
use Rattle.starts.specs.declared.sweep.Row.{Row}
use Rattle.candidates.specs.Choice.{Candidate}
use Rattle.candidates.specs.Read.{side_of, search_of, counts_at, row_of}
use Rattle.passes.specs.Sweep.{Lent, Summed, Known}
use Rattle.candidates.specs.Cells.{Scratched, fresh, Blank}
use Rattle.starts.specs.Swept.{ColumnSweep, ColumnSweepRun, ColumnSwept, RowSweep, RowSwept}
use Rattle.candidates.proofs.laws.Columns.{row_next, row_grows, row_of_lem, row_figures, row_tables, row_before, row_under, tables_low, within_at, under_at}
use Rattle.starts.proofs.laws.Floats.{figures_alone}
use Rattle.passes.proofs.laws.Lending.{lent_room}
use Rattle.candidates.proofs.laws.Cells.{scratched_then}
use Rattle.passes.proofs.laws.Cells.{lent_kept, blank_known}
use Rattle.candidates.proofs.laws.Clean.{clean_kept}
use Rattle.passes.proofs.laws.Past.{known_past, start_under, start_short}
use Rattle.passes.proofs.laws.Look.{past_kept, recalled_kept, start_past}

-- Before the first row no start is known, and every place is unreached.
pub column_first : {bytes : List ℕ} {g : Galley} {w sums words seen : List ℕ} {j : ℕ} {begin : Begin}
    → ColumnSweep bytes g w sums words seen j begin
    → ColumnSweepRun bytes g w w words words seen j begin no_heights ((counts_at g 0 j).figures + 1) false
column_first {bytes} {g} {w} {j = j} asked =
    let end = counts_at g 0 j in
    let next : end.figures + 1 ≡ suc end.figures = omega arith in
    record {
      still = λ _. refl;
      lent = asked.lent;
      past = asked.past;
      recalled = asked.recalled;
      scratch = asked.scratch;
      within = omega arith;
      sized = refl;
      words_sized = refl;
      floats = stacked_nothing (floats_of bytes g.figures) (end.figures + 1) end.figures (omega arith);
      known =
          blank_known bytes g w j (row_of g (end.figures + 1))
          (rw next (omega (arith, row_next g end.figures, row_of_lem g 0 j, tables_low g 0 j))) (lent_room asked.lent) asked.blank;
      kept = fresh;
    }

-- After the sweeps all starts are known, and where there is none the place is as empty as it was.
pub column_since : {bytes : List ℕ} {g : Galley} {w v : List ℕ} {j : ℕ} → Lent bytes g w j → Blank g w j → Known bytes g v j 0
    → Scratched g j w v → {r : Bool} → (r ≡ false → v ≡ w) → ColumnSwept bytes g w v j r
column_since {g = g} {w} {v} {j} lent blank known kept still =
    record {
      still = still;
      known = known;
      clean = clean_kept g j lent.column lent.sound.spec_ranged.sides_two w v lent.room kept (λ k c l m e. blank k c l m);
      kept = kept;
    }

-- The rows one after another.
module _ {bytes : List ℕ} {g : Galley} {w₀ w words₀ words seen : List ℕ} {j : ℕ} {begin : Begin} {heights : Heights} {top : ℕ}
    {any : Bool} (run : ColumnSweepRun bytes g w₀ w words₀ words seen j begin heights top any) where
  abbrev end : Counts
  end = counts_at g 0 j

  figures_few : end.figures ≤ g.figures.count
  figures_few = (within_at g 0 j (omega arith) run.lent.column).figures

  -- Back at the figures of the origin all starts are known: columns with fewer are before it.
  pub column_last : top ≤ begin.origin.figures → Known bytes g w j 0
  column_last e = known_past bytes g w j 0 (row_of g top) (omega arith) none run.known
    where
      none : (i a x y c : ℕ) → i ≤ g.text.count → c < g.spec.sides → 0 ≤ x → x < row_of g top → x < j
          → Candidate (search_of bytes g w i j (side_of g c)) a x y → ⊥
      none i a x y c h occurs k l m start =
          omega (arith, row_under g 0 top x l, (start_past run.lent run.past i a x y c h occurs m start).1)

  -- There is room for the figure before.
  pub column_room : Room bytes g.figures heights (counts_at g 0 j).figures
  column_room =
      stacked_room bytes g.figures top end.figures heights run.lent.sound.figures.sound
      (omega (arith, run.lent.sound.figures.few)) figures_few run.floats

  module _ (some : 0 < top) where
    step : top ≡ suc (top - 1)
    step = omega arith

    module _ (heights' : Heights) (put : heights' ≡ block_before bytes g.figures heights (top - 1) (counts_at g 0 j).figures) where
      floats_back : Stacked (floats_of bytes g.figures) (top - 1) end.figures heights'
      floats_back = back_stacked bytes g.figures top end.figures heights heights' some put run.floats

      abbrev next_row : ℕ → Row
      next_row least =
          record { begin = begin; figures = top - 1; heights = heights'; end = counts_at g 0 j; to = j; least = least }

      -- The next row may be swept,
      pub column_sweeps : {sums : List ℕ} → Summed bytes g sums → (least : ℕ) → least ≡ floor (model_of bytes g) false
          → RowSweep bytes g w sums words seen (next_row least)
      column_sweeps summed least e =
          record {
            lent = run.lent;
            past = run.past;
            recalled = run.recalled;
            summed = summed;
            scratch = run.scratch;
            end = refl;
            within = omega (arith, run.within);
            floats = floats_back;
            least = e;
            known = rw (← step) run.known;
          }

      -- which brings in its starts.
      pub column_next : (least : ℕ) (v words' : List ℕ) → length v ≡ length w → length words' ≡ length words → {some : Bool}
          → RowSwept bytes g w v (next_row least) some → ColumnSweepRun bytes g w₀ v words₀ words' seen j begin heights' (top - 1) (any || some)
      column_next least v words' p q {some} done =
          record {
            still = λ e. let (before, here) = or_false any some e in done.still here ∙ run.still before;
            lent = lent_kept done.kept run.lent;
            past = past_kept done.kept run.lent.sound.spec_ranged.sides_two run.past;
            recalled = recalled_kept done.kept run.lent.sound.spec_ranged.sides_two run.recalled;
            scratch = omega (arith, run.scratch);
            within = omega (arith, run.within);
            sized = p ∙ run.sized;
            words_sized = q ∙ run.words_sized;
            floats = floats_back;
            known = done.known;
            kept = scratched_then g j w₀ w v run.kept done.kept;
          }

      -- Where the figures alone are too tall, no page starts in that row or before it.
      pub column_tall : g.spec.htmax < heights'.tight → Known bytes g w j 0
      column_tall tall = known_past bytes g w j 0 (row_of g top) (omega arith) none run.known
        where
          from : ℕ
          from = row_of g (top - 1) + end.tables

          from_figures : (counts_at g 0 from).figures ≡ top - 1
          from_figures = row_figures g 0 (top - 1) end.tables (tables_low g 0 j)

          from_tables : (counts_at g 0 from).tables ≡ end.tables
          from_tables = row_tables g 0 (top - 1) end.tables (tables_low g 0 j)

          from_before : from ≤ j
          from_before = omega (arith, row_grows g (top - 1) end.figures (omega (arith, run.within)), row_of_lem g 0 j)

          none : (i a x y c : ℕ) → i ≤ g.text.count → c < g.spec.sides → 0 ≤ x → x < row_of g top → x < j
              → Candidate (search_of bytes g w i j (side_of g c)) a x y → ⊥
          none i a x y c h occurs k l m start =
              let (figures, tables) = start_under run.lent i a x y (side_of g c) h start in
              let fewer = row_before g 0 (top - 1) x (rw (← step) l) in
              start_short run.lent from from_before
              (under_at bytes g from j (omega (arith, from_figures, run.within)) (omega (arith, from_tables))) (omega (arith, figures_alone bytes g (top - 1) j heights' floats_back)) i a x y (side_of g c) h
              (under_at bytes g x from (omega (arith, from_figures)) (omega (arith, from_tables))) start
