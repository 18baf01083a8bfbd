-- The lines of a column one after another: what is left makes of the words what the whole makes of those at the start.
use Prim.Native.Nat.{ℕ, zero, suc, ◌+◌, ◌-◌, ◌*◌, ◌≤◌, ◌<◌}
use Rattle.std.proofs.Math.Decide.{dec_lt}
use Rattle.std.proofs.Math.Numerals.{add-one}
use native.Mathlib.Omega.{arith}
use Rattle.std.specs.Prelude.{◌≡◌, refl, ◌⊎◌, Bool, false, List, None}
use Rattle.std.proofs.Math.Path.{sym, ap}
use Rattle.std.proofs.Common.{◌∙◌, inl, inr}
use Rattle.std.proofs.Math.ListN.{length}
use Rattle.model.specs.Rules.{floor}
use Rattle.galley.specs.Model.{text_of, model_of, sides_in}
use Rattle.rules.specs.declared.waiting.Waiting.{Waiting}
use Rattle.rules.specs.Waiting.{waiting_of}
use Rattle.rules.specs.laws.Walked.{walking_none, walking_here}
use Rattle.places.specs.Order.{Earlier}
use Rattle.places.proofs.laws.Best.{no_reach}
use Rattle.window.specs.declared.slide.Window.{Window}
use Rattle.window.specs.Slide.{shut_at, Slidable, Open, Slid}
use Rattle.window.specs.laws.Slide.{ends_first, ends_next}
use Rattle.candidates.specs.Choice.{Candidate}
use Rattle.candidates.specs.Read.{table_in, side_of, search_of, counts_at}
use Rattle.passes.specs.Sweep.{Lent}
use Rattle.candidates.specs.Cells.{Scratched, fresh, more, ColumnRoom}
use Rattle.starts.specs.Swept.{ColumnSwept}
use Rattle.candidates.proofs.laws.Columns.{within_at}
use Rattle.passes.proofs.laws.Pass.{least_low}
use Rattle.candidates.proofs.laws.Read.{side_occurs}
use Rattle.candidates.proofs.laws.Cells.{scratched_length, scratched_others}
use Rattle.candidates.proofs.laws.Clean.{clean_kept}
use Rattle.passes.proofs.laws.Cells.{lent_kept}
use Rattle.passes.proofs.laws.Lending.{lent_room}
use Rattle.pricing.specs.declared.Floats.{Floats}
use Rattle.entries.specs.declared.side.Task.{Task}
use Rattle.entries.specs.Fill.{tall, fill_side, fill_sides, side_count, fill_place}
use Rattle.filling.specs.Fill.{fill_column}
use Rattle.pricing.specs.Stop.{floats_say, stop_from}
use Rattle.entries.specs.Next.{Next, plain, PlaceNext, PlaceFilled}
use Rattle.filling.specs.Next.{end_from, ColumnNext, Gathered, LastNext, Still, Onward}
use Rattle.filling.specs.Run.{LastRun}
use Rattle.entries.specs.laws.Entered.{side_low, sides_count}
use Rattle.entries.specs.laws.Costs.{lent_filled}
use Rattle.entries.specs.laws.Fill.{length_place, room_kept, filled_place}
use Rattle.filling.specs.laws.Over.{column_over}
use Rattle.entries.specs.laws.Price.{dearest_light}
use Rattle.filling.specs.laws.Still.{lines_still}
use Rattle.entries.specs.laws.Before.{lines_before}
use Rattle.filling.specs.laws.First.{lines_quiet, first_filled, column_from}
use Rattle.entries.specs.laws.Own.{lines_slide, own_short, walking_down}
use Rattle.entries.specs.laws.Queues.{no_ends, queues_none}
use Rattle.entries.specs.laws.Side.{lent_roomy, lent_wide}

-- Stores in a column before it is filled change nothing of it,
pub scratched_same : {bytes : List ℕ} {task : Task} {w : List ℕ} {j : ℕ} → Next bytes task w 0 j → (v : List ℕ)
    → Scratched task.galley j w v
    → fill_column (model_of bytes task.galley) task.origin j (suc task.galley.text.count) 0 v
    ≡ fill_column (model_of bytes task.galley) task.origin j (suc task.galley.text.count) 0 w
unfolding tall
scratched_same next v fresh = refl
scratched_same {bytes} {task} {w} {j} next v (more x y i c e s l m p) =
    let g = task.galley in
    let spec = next.lent.sound.spec_ranged in
    let sides = sides_count g.spec.sides g.folio spec.sides_some spec.sides_two in
    ap (fill_column (model_of bytes g) task.origin j (suc g.text.count) 0) p
    ∙ column_over (model_of bytes g) task.origin j (lent_wide next.lent) i c e l (omega (arith, spec.sides_two)) (rw sides m)
    (suc g.text.count) 0 x (room_kept (scratched_length g j w x s) (lent_roomy next.lent)) (omega arith) (omega arith)
    ∙ scratched_same next x s

-- So with the starts in earlier columns known the column can be filled.
pub column_last : {bytes : List ℕ} {task : Task} {w sums words : List ℕ} {j : ℕ} → ColumnNext bytes task w sums words j
    → (v words' : List ℕ) → length words' ≡ length words → {any : Bool} → ColumnSwept bytes task.galley w v j any
    → Gathered bytes task v sums words' j
column_last {task = task} {w} {j = j} column v words' sized done =
    record {
      column =
          record {
            next =
                record {
                  lent = lent_kept done.kept column.next.lent;
                  cheap = column.next.cheap;
                  limited = column.next.limited;
                  line = column.next.line;
                  origin = column.next.origin;
                  filled =
                      record {
                        entered = λ a b c x s l h k e.
                            column.next.filled.entered a b c x s l h k
                            (sym
                            (scratched_others task.galley j w v column.next.lent.sound.spec_ranged.sides_two done.kept a b c h
                            (side_low (sides_in task.galley) c k) (λ q. omega (arith, before a b l)))
                            ∙ e);
                      };
                };
            summed = column.summed;
            scratch = omega (arith, column.scratch);
          };
      known = done.known;
      clean = done.clean;
    }
  where
    before : (a b : ℕ) → Earlier a b 0 j → b < j
    before a b (inl l) = l
    before a b (inr (e, l)) = absurd (omega arith)

-- To fill sides of a place is to store in the column.
pub filled_scratched : (bytes : List ℕ) (task : Task) (w : List ℕ) (i j n : ℕ) → i ≤ task.galley.text.count → n ≤ task.galley.spec.sides
    → Scratched task.galley j w (fill_sides (model_of bytes task.galley) task.origin i j n w)
unfolding fill_sides fill_side tall
filled_scratched bytes task w i j zero l m = fresh
filled_scratched bytes task w i j (suc n) l m =
    more (fill_sides (model_of bytes task.galley) task.origin i j n w) _ i n _ (filled_scratched bytes task w i j n l (omega arith)) l m refl

-- One line after another.
module _ {bytes : List ℕ} {task : Task} {w₀ sums words₀ : List ℕ} {j first : ℕ} (last : LastNext bytes task w₀ sums words₀ j first) where
  column : ColumnNext bytes task w₀ sums words₀ j
  column = last.gathered.column

  lent_first : Lent bytes task.galley w₀ j
  lent_first = column.next.lent

  begin_low : task.origin.place.line ≤ first
  begin_low = last.begun.found.since (omega (arith, column.next.line))

  -- The window of the first line that has a start can be found from the origin's line on.
  pub first_slides : Slidable sums (plain task) (shut_at (plain task)) first
  first_slides =
      lines_slide lent_first column.summed (floor (model_of bytes task.galley) false) task.origin.place.line
      (least_low bytes task.galley lent_first.sound false) (shut_at (plain task)) first last.within begin_low begin_low begin_low

  -- At that line the queues are empty: no line before it is reached.
  pub last_first : (new : Window) → Slid sums (plain task) (shut_at (plain task)) first new
      → LastRun bytes task w₀ w₀ sums words₀ words₀ j (record { figures = 0; tables = 0 }) new no_ends first first
  last_first new slid =
      let text = text_of bytes task.galley.text in
      record {
        within = omega (arith, last.within);
        sized = refl;
        words_sized = refl;
        walked =
            walking_none lent_first.sound (counts_at task.galley first j) (within_at task.galley first j last.within lent_first.column);
        entries = first_filled last.gathered last.begun;
        run = column_from last.gathered last.begun;
        slid =
            (slid.opens text task.galley.text.count column.summed.rows last.within (ends_first text (plain task) first begin_low)).ends;
        queued = queues_none task.galley w₀ sums words₀ j new lent_first.sound.spec_ranged.sides_two (λ a c occurs l. none a c occurs l);
        waits = λ k c l m n. last.gathered.known k c l m;
        clean = last.gathered.clean;
        begun = begin_low;
        inside = last.within;
      }
    where
      none : (a c : ℕ) → c < task.galley.spec.sides → (a < new.split) ⊎ (a < new.high)
          → table_in task.galley w₀ a j (side_of task.galley c) ≡ None
      none a c occurs (inl l) =
          (lines_quiet last.gathered last.begun).none a (side_of task.galley c) (omega arith) (omega (arith, slid.between))
          (side_occurs lent_first.sound c occurs)
      none a c occurs (inr l) =
          (lines_quiet last.gathered last.begun).none a (side_of task.galley c) (omega arith) (omega (arith, slid.inside))
          (side_occurs lent_first.sound c occurs)

  -- After the last line the column is filled.
  pub last_done : {w words ends : List ℕ} {waiting : Waiting} {window : Window} {i to : ℕ}
      → LastRun bytes task w₀ w sums words₀ words j waiting window ends i to → task.galley.text.count < i
      → w ≡ fill_column (model_of bytes task.galley) task.origin j (suc task.galley.text.count) 0 w₀
  unfolding fill_column
  last_done {i = i} run l =
      let n : suc task.galley.text.count - i ≡ 0 = omega (arith, run.within) in
      rw n at run.run

  module _ {w words ends : List ℕ} {waiting : Waiting} {window : Window} {i to : ℕ}
      (run : LastRun bytes task w₀ w sums words₀ words j waiting window ends i to) (at : i ≤ task.galley.text.count) where
    next : Next bytes task w i j
    next =
        record {
          lent =
              lent_filled w lent_first.sound column.next.cheap run.entries lent_first.column
              (omega (arith, lent_first.room, run.sized));
          cheap = column.next.cheap;
          limited = column.next.limited;
          line = column.next.line;
          origin = column.next.origin;
          filled = run.entries;
        }

    lent : Lent bytes task.galley w j
    lent = next.lent

    -- The window can be moved on to line i.
    pub last_slides : Slidable sums (plain task) window i
    last_slides =
        lines_slide lent column.summed (floor (model_of bytes task.galley) false) task.origin.place.line
        (least_low bytes task.galley lent.sound false) window i at run.slid.low run.slid.split
        run.slid.high

    module _ (new : Window) (slid : Slid sums (plain task) window i new) where
      opened : Open (text_of bytes task.galley.text) (plain task) new i
      opened = slid.opens (text_of bytes task.galley.text) task.galley.text.count column.summed.rows at run.slid

      -- The next line that may be a start is looked for from there on, in lines of the text.
      pub last_looks : ColumnRoom task.galley w j × (new.low ≤ task.galley.text.count) × (to ≤ task.galley.text.count)
      last_looks = (lent_room lent, omega (arith, slid.within), run.inside)

      module _ (onto : ℕ) (onward : Onward task.galley w j new.low to onto) (over : task.galley.text.count < onto) where
        -- Where no later line may be a start, no line from i on is reached: what starts above the window is too tall for it, and stays so.
        last_still : Still bytes task w j i (suc task.galley.text.count)
        last_still =
            record {
              lent = lent;
              within = omega arith;
              quiet = record { none = λ a c f m. (onward.none over).1.none a c (omega (arith, slid.within)) m };
              waits = run.waits;
              clean = run.clean;
              later = λ k f m same. omega (arith, same.0, run.begun, (onward.none over).0, slid.within);
              above = λ k a c x f m before occurs start. go k a c x f m before occurs start (dec_lt a task.origin.place.line) (dec_lt a new.low);
            }
          where
            go : (k a c x : ℕ) → i ≤ k → k < suc task.galley.text.count → a < i → c < task.galley.spec.sides
                → Candidate (search_of bytes task.galley w k j (side_of task.galley c)) a j x → Dec (a < task.origin.place.line) → Dec (a < new.low)
                → ⊥
            go k a c x f m before occurs start (yes p) d =
                no_reach (sym (lines_before next at c occurs a p before) ∙ start.reached.entry)
            go k a c x f m before occurs start (no p) (yes d) =
                own_short lent k a (side_of task.galley c) x task.galley.spec.htmin task.origin.place.line (omega arith) (omega arith) start
                (opened.ends.passed a k (omega arith) d f)
            go k a c x f m before occurs start (no p) (no d) =
                no_reach
                (sym ((onward.none over).1.none a (side_of task.galley c) (omega arith) (omega arith) (side_occurs lent.sound c occurs))
                ∙ start.reached.entry)

        -- So the column is filled.
        pub last_over : w ≡ fill_column (model_of bytes task.galley) task.origin j (suc task.galley.text.count) 0 w₀
        unfolding fill_column
        last_over =
            let none : suc task.galley.text.count - suc task.galley.text.count ≡ 0 = omega arith in
            sym (rw none at (lines_still last_still (omega arith))) ∙ run.run

      module _ (waiting' : Waiting) (found : waiting' ≡ waiting_of bytes task.galley (counts_at task.galley i j)) (floats : Floats)
          (say : floats ≡ floats_say bytes task.galley (counts_at task.galley i j)) where
        -- Else the place can be filled,
        pub last_place_lem : PlaceNext bytes task w sums words ends (record { from = window; to = new })
            (end_from bytes task.galley (counts_at task.galley i j) j floats waiting')
        last_place_lem =
            record {
              next = next;
              ending =
                  record {
                    line = at;
                    counts = refl;
                    found = ap (λ (k : Waiting). k.figures + k.tables) found;
                    stop = ap (stop_from bytes task.galley i) say;
                  };
              summed = column.summed;
              scratch = omega (arith, column.scratch, run.words_sized);
              slides = record { rises = record { low = slid.low; split = slid.split; high = slid.high }; opened = opened };
              queued =
                  record { rows = run.queued.rows; moved = λ c l. absurd (omega arith); still = run.queued.still };
              waits = run.waits;
            }

        -- and is.
        pub last_next : (onto : ℕ) → Onward task.galley w j new.low to onto → onto ≤ task.galley.text.count → (v words' : List ℕ)
            → length words' ≡ length words → (next : List ℕ)
            → PlaceFilled bytes task w v sums words' next (record { from = window; to = new })
            (end_from bytes task.galley (counts_at task.galley i j) j floats waiting')
            → LastRun bytes task w₀ v sums words₀ words' j waiting' new next (i + 1) onto
        unfolding fill_column fill_place tall
        last_next onto onward high v words' sized next done =
            let m = model_of bytes task.galley in
            let inside = within_at task.galley i j at lent.column in
            let spec = lent.sound.spec_ranged in
            let sides = sides_count task.galley.spec.sides task.galley.folio spec.sides_some spec.sides_two in
            let n : 2 * i + 2 ≡ 2 * (i + 1) = omega arith in
            let s : i + 1 ≡ suc i = omega arith in
            let rest : suc task.galley.text.count - i ≡ suc (suc task.galley.text.count - suc i) = omega arith in
            record {
              within = omega arith;
              sized = ap length done.filled ∙ length_place m task.origin i j w ∙ run.sized;
              words_sized = sized ∙ run.words_sized;
              walked =
                  walking_down task.galley i j waiting' inside
                  (walking_here lent.sound (counts_at task.galley i j) waiting' inside found);
              entries =
                  rw (s, done.filled)
                  (filled_place m (dearest_light bytes task.galley lent.sound) task.origin i j at (lent_wide lent) w (lent_roomy lent)
                  run.entries);
              run = rw (s, done.filled) (rw rest at run.run);
              slid = rw add-one (ends_next (text_of bytes task.galley.text) (plain task) new i opened);
              queued = done.queued;
              waits = rw n at done.waits;
              clean =
                  rw done.filled
                  (clean_kept task.galley j lent.column spec.sides_two w _ lent.room
                  (filled_scratched bytes task w i j (side_count (sides_in task.galley)) at (omega (arith, sides))) run.clean);
              begun = omega (arith, run.begun, onward.since);
              inside = high;
            }
