-- The lines of a side in a sweep: what holds at each of them, and at its end.
use Rattle.std.specs.Prelude.{ℕ, ◌+◌, ◌≤◌, ◌<◌, ◌≡◌, ◌⊎◌, false, List, length}
use Rattle.std.proofs.Common.{le_refl, add-one, arith, sym, ◌∙◌, subst, inl, inr}
use Rattle.std.proofs.Math.Decide.{dec_lt, ℕ_discrete}
use Rattle.model.specs.Galley.{Stream}
use Rattle.galley.specs.declared.Galley.{Galley}
use Rattle.galley.specs.Model.{text_of}
use Rattle.places.specs.declared.Place.{Place}
use Rattle.places.specs.Entry.{Entry, least}
use Rattle.places.proofs.laws.Best.{no_reach}
use Rattle.window.specs.declared.slide.Window.{Window}
use Rattle.queues.specs.declared.queue.Source.{Source}
use Rattle.queues.specs.declared.parts.Parts.{Parts}
use Rattle.window.specs.Slide.{Slidable, Open}
use Rattle.queues.specs.Queue.{lines_of, Payable}
use Rattle.window.specs.Slide.{Rises}
use Rattle.queues.specs.Parts.{Both, Movable, Moved}
use Rattle.window.specs.Windows.{window_at, Windowable, WindowFound}
use Rattle.window.specs.laws.Slide.{ends_next}
use Rattle.queues.proofs.laws.Parts.{both_same, both_beside}
use Rattle.window.specs.laws.Windows.{window_beside, kept_beside, ends_rise}
use Rattle.passes.specs.declared.pass.Pass.{Pass}
use Rattle.candidates.specs.Fronts.{best_front, Fronted}
use Rattle.candidates.specs.Choice.{Candidate}
use Rattle.candidates.specs.Read.{side_of, search_of, last_place}
use Rattle.passes.specs.Bound.{Bounded, Comparable, Beaten}
use Rattle.passes.specs.Sweep.{Lent, pass_load, weighed, Ended, Swept, sweep_end}
use Rattle.candidates.specs.Cells.{number}
use Rattle.passes.specs.Swept.{Windowed, Taken, Early, Late, SideSweep, SideRun, SideDone}
use Rattle.candidates.proofs.laws.Read.{side_either, side_occurs}
use Rattle.passes.proofs.laws.Lending.{can_slide, can_move}
use Rattle.passes.proofs.laws.Fronts.{fronts_best, can_front}
use Rattle.candidates.proofs.laws.Cells.{scratched_then}
use Rattle.passes.proofs.laws.Cells.{lent_kept}
use Rattle.passes.proofs.laws.Bound.{bounded_beside, bounded_same}
use Rattle.passes.proofs.laws.Pass.{end_low, end_inner, pass_ended, pass_late, pass_beaten, pass_changed, pass_swept}
use Rattle.passes.proofs.laws.Look.{quiet_kept, last_kept, swept_skip}
use Rattle.passes.proofs.laws.Begin.{from_low, order, last_low}

module _ {bytes : List ℕ} {g : Galley} {w₀ sums words₀ : List ℕ} {c : ℕ} {pass : Pass} {stop : ℕ}
    (asked : SideSweep bytes g w₀ sums words₀ c pass stop) where
  abbrev text : Stream
  text = text_of bytes g.text

  abbrev column : List ℕ → ℕ → Entry
  column w = lines_of w (g.text.count + 1) pass.from (side_of g c)

  -- What is offered costs little.
  costs_low : {w : List ℕ} → Lent bytes g w pass.to → (i : ℕ) → i ≤ g.text.count → Payable (column w) i
  costs_low lent i l a m = lent.costs pass.from c asked.passing.before asked.occurs a (omega arith)

  -- The lines of the column from which pages of the pass start.
  abbrev source : Source
  source = record { tall = g.text.count + 1; column = pass.from; side = side_of g c }

  module _ {words₁ w words : List ℕ} {since : ℕ} {parts : Parts} {fed window : Window} {i : ℕ}
      (run : SideRun bytes g w₀ w sums words₁ words c pass stop since parts fed window i) where
    lent_now : Lent bytes g w pass.to
    lent_now = lent_kept run.kept asked.lent

    two : g.spec.sides ≤ 2
    two = asked.lent.sound.spec_ranged.sides_two

    early_now : Early g w pass
    early_now = quiet_kept run.kept two two asked.passing.before (omega (arith, asked.first)) asked.early

    late_now : Late g w pass
    late_now = last_kept run.kept two asked.passing.before asked.late

    -- What is reached is no later than the last line of the pass.
    reached_low : (a y : ℕ) (t : Place) → a ≤ g.text.count → column w a ≡ least y t → a ≤ pass.reach.last
    reached_low a y t l e = go (dec_lt pass.reach.last a)
      where
        go : Dec (pass.reach.last < a) → a ≤ pass.reach.last
        go (no h) = omega arith
        go (yes h) =
            absurd (no_reach (sym (late_now.quiet.none a (side_of g c) (omega arith) (omega arith) (side_occurs asked.lent.sound c asked.occurs)) ∙ e))

    -- It ends where the sweep stops: from there on there is nothing to weigh.
    pub side_last : stop ≤ i → SideDone bytes g w₀ w words c pass stop
    side_last l =
        let e : i ≡ stop = omega (arith, run.within) in
        record {
          windows = λ k m. run.windows k (m, inr (omega (arith, m.1)));
          swept =
              swept_skip lent_now c stop (sweep_end g pass) asked.stopped.within (end_low g pass) none
              (subst (λ n. Swept bytes g w pass.to pass.from (number c n)) e run.swept);
          kept = run.kept;
        }
      where
        none : (k a y : ℕ) → stop ≤ k → k < sweep_end g pass → Candidate (search_of bytes g w k pass.to (side_of g c)) a pass.from y → ⊥
        none k a y l m =
            let inner = end_inner g pass k m in
            let after = asked.stopped.after (omega arith) in
            pass_late lent_now asked.passing k c inner.0 asked.occurs false inner.1 asked.least
            late_now (omega arith) (asked.stopped.tall text asked.summed.rows k l m) a y

    module _ (next : i < stop) where
      inner : (i ≤ g.text.count) × (last_place g i pass.to ≡ false)
      inner = end_inner g pass i (omega (arith, asked.stopped.within))

      pub side_line : i ≤ g.text.count
      side_line = inner.0

      pub side_ended : Ended g w i c pass
      side_ended = pass_ended lent_now asked.passing i c side_line asked.occurs

      slides : (window : Window) → window.low ≤ i → window.split ≤ i → window.high ≤ i → Slidable sums (pass_load g pass) window i
      slides window =
          can_slide lent_now asked.summed 1 pass.heights (le_refl 1) asked.passing.low pass.least pass.reach.first (order asked) window i side_line

      pub side_slides : Windowable sums (pass_load g pass) words window i
      side_slides =
          record {
            slides = slides window run.ends.low run.ends.split run.ends.high;
            few = omega (arith, side_line, asked.lent.sound.few_lines);
            room = run.scratch;
          }

      -- The window of the line is known.
      module _ (words' : List ℕ) (sized : length words' ≡ length words) (new : Window)
          (found : WindowFound sums (pass_load g pass) words window i c new words') where
        opened : Open text (pass_load g pass) new i
        opened =
            found.opens text g.text.count asked.summed.rows side_line run.ends (λ p. run.windows i ((run.from, next), inl p))

        held_found : Both (column w) sums words' 0 parts fed
        held_found =
            both_beside (omega (arith, run.rises.split, run.ends.split, side_line, asked.lent.sound.few_lines))
            (omega (arith, run.rises.high, run.ends.high, side_line, asked.lent.sound.few_lines)) found.beside (inl (omega arith)) run.held

        bounded_found : Bounded (column w) words' pass.reach.last since
        bounded_found = bounded_beside found.beside (omega (arith, side_line, asked.lent.sound.few_lines)) run.bounded

        rises_found : Rises fed new
        rises_found =
            let on = ends_rise text (pass_load g pass) window new i run.ends opened in
            record {
              low = omega (arith, run.rises.low, on.low);
              split = omega (arith, run.rises.split, on.split);
              high = omega (arith, run.rises.high, on.high);
            }

        windows_found : Windowed bytes g words' pass (λ k. Taken pass stop k × ((0 < c) ⊎ (k < i + 1)))
        windows_found k (l, p) = go (ℕ_discrete k i)
          where
            before : ¬ (k ≡ i) → (0 < c) ⊎ (k < i + 1) → (0 < c) ⊎ (k < i)
            before n (inl h) = inl h
            before n (inr h) = inr (omega arith)

            apart : ¬ (k ≡ i) → Dec (k < i) → (k + 8000 < i + 8000) ⊎ (i + 8001 ≤ k + 8000)
            apart n (yes m) = inl (omega arith)
            apart n (no m) = inr (omega arith)

            go : Dec (k ≡ i) → Open text (pass_load g pass) (window_at words' k) k
            go (yes e) =
                rw e (subst (λ (window : Window). Open text (pass_load g pass) window i) (sym found.kept) opened)
            go (no n) =
                subst (λ (window : Window). Open text (pass_load g pass) window k)
                (sym (window_beside found.beside k (apart n (dec_lt k i)))) (run.windows k (l, before n p))

        -- The place can be compared with the bounds,
        pub side_compares : Comparable w words' (g.text.count + 1) (record { line = i; column = pass.to }) c pass.reach.last
        side_compares =
            record {
              stands = side_ended.end;
              few = omega (arith, last_low asked, asked.lent.sound.few_lines);
              room = omega (arith, run.scratch, sized);
            }

        -- and where it holds less than all that the pass offers, the line is passed over.
        pub side_beaten : Beaten w words' (g.text.count + 1) (record { line = i; column = pass.to }) c since new.low pass.reach.last
            → SideRun bytes g w₀ w sums words₁ words' c pass stop since parts fed new (i + 1)
        side_beaten beaten =
            record {
              from = omega (arith, run.from);
              within = omega arith;
              sized = run.sized;
              words_sized = sized ∙ run.words_sized;
              scratch = omega (arith, run.scratch, sized);
              ends = rw add-one (ends_next text (pass_load g pass) new i opened);
              windows = windows_found;
              rises = rises_found;
              bounded = bounded_found;
              held = held_found;
              swept =
                  pass_beaten lent_now asked.passing i c side_line asked.occurs false inner.1 asked.least early_now asked.white new
                  opened beaten.cost beaten.start beaten.held (λ a y t l m e.
                  omega (
                    arith,
                    beaten.less,
                    bounded_found.low new.low a y t beaten.after beaten.before l (reached_low a y t (omega (arith, side_line)) e) e,
                  )) run.swept;
              kept = run.kept;
            }

        pub side_moves : Movable w sums words' source parts fed new
        side_moves =
            can_move lent_now asked.summed (omega (arith, run.scratch, sized)) pass.from c (from_low asked) parts fed
            new i side_line (costs_low lent_now i side_line) opened.ends.split opened.ends.high rises_found 0 (omega arith) held_found

        -- The queues have moved on.
        module _ (words'' : List ℕ) (sized'' : length words'' ≡ length words') (moved : Parts)
            (done : Moved w sums words' source parts new moved words'') where
          held_next : Both (column w) sums words'' 0 moved new
          held_next = subst (λ n. Both (column w) sums words'' n moved new) run.held.first done.held

          pub side_fronted : Fronted sums words'' moved pass.from (pass_load g pass) i
          side_fronted =
              can_front lent_now asked.summed (omega (arith, run.scratch, sized, sized'')) (pass_load g pass) (order asked) i
              side_line new opened (column w) 0 pass.from moved held_next done.fresh (from_low asked) (omega arith) (costs_low lent_now i side_line)
              (slides new opened.ends.low opened.ends.split opened.ends.high)

          -- One line more is swept.
          pub side_next : (v : List ℕ) → v ≡ weighed g w (best_front sums words'' moved pass.from (pass_load g pass) i) i c pass
              → SideRun bytes g w₀ v sums words₁ words'' c pass stop since moved new new (i + 1)
          side_next v e =
              let lines = best_front sums words'' moved pass.from (pass_load g pass) i in
              let best =
              fronts_best lent_now asked.summed (omega (arith, run.scratch, sized, sized'')) (pass_load g pass) (order asked) i
              side_line new opened (column w) 0 pass.from moved held_next done.fresh in
              let changed =
              pass_changed lent_now asked.passing i c side_line asked.occurs false inner.1 asked.least early_now asked.white new opened lines
              best run.swept v e in
              let others : (a : ℕ) → a ≤ g.text.count → column v a ≡ column w a = λ a l.
              changed.others a pass.from (side_of g c) l (side_either g c) (λ q. omega (arith, q.1, asked.passing.before)) in
              record {
                from = omega (arith, run.from);
                within = omega arith;
                sized = changed.sized ∙ run.sized;
                words_sized = sized'' ∙ sized ∙ run.words_sized;
                scratch = omega (arith, run.scratch, sized, sized'');
                ends = rw add-one (ends_next text (pass_load g pass) new i opened);
                windows = kept_beside done.beside (λ k p. inr (omega (arith, run.held.first))) windows_found;
                rises = record { low = le_refl _; split = le_refl _; high = le_refl _ };
                bounded =
                    bounded_same (λ a l. others a (omega (arith, last_low asked)))
                    (bounded_beside done.beside (omega (arith, run.held.first)) bounded_found);
                held = both_same i opened.ends.split opened.ends.high (λ a l. others a (omega (arith, side_line))) held_next;
                swept =
                    pass_swept lent_now asked.passing i c side_line asked.occurs false inner.1 asked.least early_now asked.white new opened lines
                    best run.swept v e;
                kept = scratched_then g pass.to w₀ w v run.kept changed.kept;
              }
