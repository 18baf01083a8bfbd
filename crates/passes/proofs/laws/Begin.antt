-- What a side of a sweep begins with: its column and its least height are in order, its lines can be bounded, and its queues are empty.
use Rattle.std.specs.Prelude.{ℕ, ◌+◌, ◌≤◌, ◌<◌, ◌≡◌, refl, ◌⊎◌, false, List, length}
use Rattle.std.proofs.Common.{le_refl, arith, inl, inr}
use Rattle.model.specs.Galley.{Stream}
use Rattle.galley.specs.declared.Galley.{Galley}
use Rattle.galley.specs.Model.{text_of}
use Rattle.window.specs.Slide.{shut_at, Reachable, Open}
use Rattle.queues.specs.Queue.{lines_of}
use Rattle.queues.specs.Parts.{no_parts}
use Rattle.window.specs.Windows.{window_at}
use Rattle.window.specs.laws.Slide.{ends_first}
use Rattle.queues.proofs.laws.Parts.{both_none}
use Rattle.window.specs.laws.Windows.{kept_beside}
use Rattle.passes.specs.declared.pass.Pass.{Pass}
use Rattle.candidates.specs.Read.{side_of, columns_in}
use Rattle.passes.specs.Bound.{Standing, BoundFound}
use Rattle.passes.specs.Sweep.{pass_load}
use Rattle.candidates.specs.Cells.{fresh}
use Rattle.passes.specs.Swept.{Taken, SideSweep, SideRun}
use Rattle.candidates.proofs.laws.Columns.{columns_few, few_floats}
use Rattle.candidates.proofs.laws.Read.{side_either}
use Rattle.passes.proofs.laws.Lending.{can_stand, can_slide}
use Rattle.passes.proofs.laws.Pass.{least_low, end_inner}
use Rattle.passes.proofs.laws.Look.{start_quiet, swept_skip}

module _ {bytes : List ℕ} {g : Galley} {w₀ sums words₀ : List ℕ} {c : ℕ} {pass : Pass} {stop : ℕ}
    (asked : SideSweep bytes g w₀ sums words₀ c pass stop) where
  abbrev text : Stream
  text = text_of bytes g.text

  pub from_low : pass.from < columns_in g
  from_low = omega (arith, asked.passing.before, asked.lent.column)

  pub order : pass.least ≤ g.spec.htmax
  order = rw asked.least (least_low bytes g asked.lent.sound false)

  -- The last line that is reached is one of the galley's.
  pub last_low : pass.reach.last ≤ g.text.count
  last_low = asked.late.within asked.first

  -- How far a page of all that may be reached goes can be read.
  pub side_reaches : Reachable sums 0 (pass_load g pass).tight (g.spec.htmax + 1) pass.reach.first pass.reach.last
  side_reaches =
      let since = asked.late.since in
      (can_slide asked.lent asked.summed 1 pass.heights (le_refl 1) asked.passing.low pass.least pass.reach.first order
      (shut_at (pass_load g pass)) pass.reach.last last_low since since since).low

  -- They can be bounded.
  pub side_stands : Standing w₀ words₀ (record { tall = g.text.count + 1; column = pass.from; side = side_of g c }) pass.reach.last
  side_stands =
      record {
        stands = λ a l. can_stand asked.lent a pass.from (side_of g c) (omega (arith, last_low)) from_low (side_either g c);
        few = omega (arith, last_low, asked.lent.sound.few_lines);
        column = omega (arith, from_low, columns_few g (few_floats asked.lent.sound));
        room = asked.scratch;
      }

  -- A side starts at the first line that is reached, with nothing in its queues: before it there is no start.
  pub side_first : (words : List ℕ) → length words ≡ length words₀ → (since : ℕ)
      → BoundFound w₀ words₀ (record { tall = g.text.count + 1; column = pass.from; side = side_of g c }) pass.reach.last since words
      → SideRun bytes g w₀ w₀ sums words words c pass stop since no_parts (shut_at (pass_load g pass)) (shut_at (pass_load g pass)) pass.reach.first
  side_first words sized since found =
      record {
        from = le_refl _;
        within = asked.stopped.from;
        sized = refl;
        words_sized = refl;
        scratch = omega (arith, asked.scratch, sized);
        ends = ends_first text (pass_load g pass) pass.reach.first (le_refl _);
        windows = kept_beside found.beside apart (λ k p. kept k p.0 p.1);
        rises = record { low = le_refl _; split = le_refl _; high = le_refl _ };
        bounded = found.bounded;
        held = both_none (lines_of w₀ (g.text.count + 1) pass.from (side_of g c)) sums words 0 (shut_at (pass_load g pass)) (λ a l m. absurd (none a l m));
        swept =
            swept_skip asked.lent c 0 pass.reach.first (omega arith) (omega (arith, asked.first)) (λ k a y l m start.
            start_quiet asked.lent asked.early k a y c asked.occurs start (omega arith) (omega (arith, start.line))) asked.swept;
        kept = fresh;
      }
    where
      apart : (k : ℕ) → Taken pass stop k × ((0 < c) ⊎ (k < pass.reach.first)) → (k + 8000 < 12001) ⊎ (16000 ≤ k + 8000)
      apart k p = inl (omega (arith, (end_inner g pass k (omega (arith, p.0.1, asked.stopped.within))).0, asked.lent.sound.few_lines))

      none : (a : ℕ) → pass.reach.first ≤ a → (a < pass.reach.first) ⊎ (a < pass.reach.first) → ⊥
      none a l (inl m) = omega arith
      none a l (inr m) = omega arith

      kept : (k : ℕ) → Taken pass stop k → (0 < c) ⊎ (k < pass.reach.first) → Open text (pass_load g pass) (window_at words₀ k) k
      kept k l (inl p) = asked.windows p k l
      kept k l (inr p) = absurd (omega (arith, l.0))
