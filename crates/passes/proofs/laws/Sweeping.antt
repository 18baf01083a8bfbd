-- The sides of a sweep one after another, each with the last line of the last column.
use Rattle.std.specs.Prelude.{ℕ, ◌+◌, ◌≤◌, ◌<◌, ◌≡◌, false, List, length}
use Rattle.std.proofs.Common.{le_refl, arith, ◌∙◌}
use Rattle.std.proofs.Math.Path.{refl}
use Rattle.std.proofs.Math.Bool.{true}
use borrow.Author.Tests.{eq-eqb, ne_eqb}
use Rattle.model.specs.Rules.{floor}
use Rattle.rules.specs.Sums.{white_at}
use Rattle.galley.specs.declared.Galley.{Galley}
use Rattle.galley.specs.Model.{text_of, model_of}
use Rattle.places.specs.Entry.{Entry}
use Rattle.window.specs.Slide.{shut_at}
use Rattle.passes.specs.declared.pass.Pass.{Pass}
use Rattle.candidates.specs.Read.{side_of, columns_in, last_place}
use Rattle.passes.specs.Sweep.{pass_load, Passing, weighed, Ended, Swept, Stoppable, Stopped}
use Rattle.candidates.specs.Last.{LinesStand, LastBest}
use Rattle.candidates.specs.Cells.{number, Scratched, fresh}
use Rattle.passes.specs.Swept.{Sweep, SweepRun, SweepDone, SideSweep, SideDone, LastLine, LineDone}
use Rattle.candidates.proofs.laws.Read.{side_either}
use Rattle.passes.proofs.laws.Lending.{lent_wide, can_stand, floats_separable, can_slide}
use Rattle.candidates.proofs.laws.Cells.{scratched_then}
use Rattle.passes.proofs.laws.Cells.{lent_kept, swept_side}
use Rattle.passes.proofs.laws.Pass.{least_low, pass_ended, pass_changed, pass_swept}
use Rattle.passes.proofs.laws.Look.{quiet_kept, last_kept, known_quiet}

-- The last line.
module _ {bytes : List ℕ} {g : Galley} {w sums : List ℕ} {c : ℕ} {pass : Pass} (asked : LastLine bytes g w sums c pass) where
  -- In any other column the sweep has taken it.
  pub last_taken : pass.to + 1 < columns_in g → LineDone bytes g w w c pass
  last_taken l =
      let n : (pass.to + 1 ≡ columns_in g) → ⊥ = λ e. omega arith in
      let t = ne_eqb (pass.to + 1) (columns_in g) n in
      let swept : Swept bytes g w pass.to pass.from (number c (g.text.count + 1)) = rw t at asked.swept in
      record {
        swept = swept_side c (g.text.count + 1) asked.lent.sound.few_lines (omega arith) (omega arith) swept;
        kept = fresh;
      }

  module _ (last : columns_in g ≤ pass.to + 1) where
    -- The pass to a page that may be short.
    abbrev short : Pass
    short =
        record {
          from = pass.from;
          to = pass.to;
          heights = pass.heights;
          least = floor (model_of bytes g) true;
          white = 0;
          reach = pass.reach;
        }

    passing : Passing bytes g short
    passing =
        record {
          before = asked.passing.before;
          under = asked.passing.under;
          tight = asked.passing.tight;
          loose = asked.passing.loose;
          low = asked.passing.low;
          short = asked.passing.short;
        }

    pub last_stand : LinesStand g w sums (pass_load g short) pass.from (side_of g c)
    last_stand =
        record {
          stands = λ a l.
              can_stand asked.lent a pass.from (side_of g c) l (omega (arith, asked.passing.before, asked.lent.column))
              (side_either g c);
          costs = λ a l. asked.lent.costs pass.from c asked.passing.before asked.occurs a (omega arith);
          first = asked.first;
          slides =
              can_slide asked.lent asked.summed 1 pass.heights (le_refl 1) asked.passing.low g.spec.lastmin pass.reach.first
              (least_low bytes g asked.lent.sound true) (shut_at (pass_load g short)) g.text.count (le_refl _) asked.first
              asked.first asked.first;
        }

    pub last_ended : Ended g w g.text.count c short
    last_ended = pass_ended asked.lent passing g.text.count c (le_refl _) asked.occurs

    -- It is swept too.
    pub last_done : (lines : Entry) → LastBest g w sums (pass_load g short) pass.from (side_of g c) lines
        → (v : List ℕ) → v ≡ weighed g w lines g.text.count c short → LineDone bytes g w v c pass
    unfolding white_at
    last_done lines found v e =
        let same : pass.to + 1 ≡ columns_in g = omega (arith, asked.lent.column) in
        let full : last_place g g.text.count pass.to ≡ true =
        rw (eq-eqb g.text.count g.text.count refl, eq-eqb (pass.to + 1) (columns_in g) same) in
        let opened = found.opens (text_of bytes g.text) asked.summed.rows in
        let swept : Swept bytes g w pass.to pass.from (number c g.text.count) =
        rw (eq-eqb (pass.to + 1) (columns_in g) same) at asked.swept in
        record {
          swept =
              swept_side c (g.text.count + 1) asked.lent.sound.few_lines (omega arith) (omega arith)
              (pass_swept asked.lent passing g.text.count c (le_refl _) asked.occurs true full refl asked.early refl found.window opened lines
              found.best swept v e);
          kept =
              (pass_changed asked.lent passing g.text.count c (le_refl _) asked.occurs true full refl asked.early refl found.window opened lines
              found.best swept v e).kept;
        }

-- The sides one after another.
module _ {bytes : List ℕ} {g : Galley} {w₀ sums words₀ : List ℕ} {pass : Pass} (asked : Sweep bytes g w₀ sums words₀ pass) where
  pub sweep_first : (stop : ℕ) → SweepRun bytes g w₀ w₀ words₀ words₀ pass stop 0
  sweep_first stop =
      record {
        within = omega arith;
        sized = refl;
        words_sized = refl;
        windows = λ p. absurd (omega arith);
        swept = record { done = λ k c l m n. absurd (omega arith); left = λ k c l m n. asked.known k c l m };
        kept = fresh;
      }

  two : g.spec.sides ≤ 2
  two = asked.lent.sound.spec_ranged.sides_two

  -- Where no line of the column is reached the pass has no start.
  pub sweep_none : g.text.count < pass.reach.first → SweepDone bytes g w₀ w₀ pass
  sweep_none l =
      record {
        known =
            known_quiet asked.lent
            (record { none = λ a c h m occurs. asked.early.none a c h (omega arith) occurs }) asked.known;
        still = λ _. refl;
        kept = fresh;
      }

  -- Where it stops can be found.
  pub sweep_stops : pass.reach.first ≤ g.text.count → Stoppable g sums pass
  sweep_stops some =
      let line = asked.late.within some in
      record {
        wide = lent_wide asked.lent;
        separable = floats_separable asked.lent 1 pass.heights (le_refl 1) asked.passing.low;
        order = asked.late.since;
        line = line;
        reaches =
            (can_slide asked.lent asked.summed 1 pass.heights (le_refl 1) asked.passing.low pass.least pass.reach.first
            (rw asked.least (least_low bytes g asked.lent.sound false))
            (record { low = pass.reach.last; split = pass.reach.last; high = pass.reach.last }) g.text.count (le_refl _) line line line).low;
      }

  module _ (some : pass.reach.first ≤ g.text.count) {stop : ℕ} (stopped : Stopped g sums pass stop) {w words : List ℕ} {c : ℕ}
      (run : SweepRun bytes g w₀ w words₀ words pass stop c) where
    -- After the last side all places know the starts of the pass.
    pub sweep_last : g.spec.sides ≤ c → SweepDone bytes g w₀ w pass
    sweep_last l =
        record {
          known = λ k d h m. run.swept.done k d h m (omega (arith, asked.lent.sound.few_lines));
          still = λ none. absurd (omega arith);
          kept = run.kept;
        }

    module _ (occurs : c < g.spec.sides) where
      pub sweep_side : SideSweep bytes g w sums words c pass stop
      sweep_side =
          record {
            lent = lent_kept run.kept asked.lent;
            early = quiet_kept run.kept two two asked.passing.before (omega arith) asked.early;
            late = last_kept run.kept two asked.passing.before asked.late;
            stopped = stopped;
            first = some;
            summed = asked.summed;
            scratch = omega (arith, asked.scratch, run.words_sized);
            passing = asked.passing;
            least = asked.least;
            white = asked.white;
            occurs = occurs;
            windows = run.windows;
            swept = run.swept;
          }

      module _ (v words' : List ℕ) (p : length v ≡ length w) (q : length words' ≡ length words) (side : SideDone bytes g w v words' c pass stop) where
        kept_both : Scratched g pass.to w₀ v
        kept_both = scratched_then g pass.to w₀ w v run.kept side.kept

        pub sweep_line : LastLine bytes g v sums c pass
        sweep_line =
            record {
              lent = lent_kept kept_both asked.lent;
              early = quiet_kept kept_both two two asked.passing.before (omega arith) asked.early;
              first = some;
              summed = asked.summed;
              passing = asked.passing;
              occurs = occurs;
              swept = side.swept;
            }

        pub sweep_next : (u : List ℕ) → length u ≡ length v → LineDone bytes g v u c pass
            → SweepRun bytes g w₀ u words₀ words' pass stop (c + 1)
        sweep_next u r line =
            record {
              within = omega arith;
              sized = r ∙ p ∙ run.sized;
              words_sized = q ∙ run.words_sized;
              windows = λ _. side.windows;
              swept = line.swept;
              kept = scratched_then g pass.to w₀ v u kept_both line.kept;
            }
