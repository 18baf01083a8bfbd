-- What the ring says of columns while they are filled: to fill one leaves the others.
use Rattle.std.specs.Prelude.{ℕ, suc, ◌+◌, ◌-◌, ◌≤◌, ◌<◌, ◌≡◌, List, length}
use Rattle.std.proofs.Math.Decide.{dec_lt}
use Rattle.std.proofs.Common.{arith, sym, ◌∙◌, ap}
use Rattle.galley.specs.declared.Galley.{Galley}
use Rattle.galley.specs.Model.{model_of}
use Rattle.candidates.specs.Cells.{ColumnRoom}
use Rattle.reached.specs.declared.recall.Recall.{Recall}
use Rattle.reached.specs.Look.{Quiet, Hinted, Told}
use Rattle.reached.specs.Recall.{Agrees, Noted}
use Rattle.passes.specs.Sweep.{Lent}
use Rattle.passes.proofs.laws.Lending.{lent_room}
use Rattle.passes.proofs.laws.Look.{quiet_then}
use Rattle.entries.specs.declared.side.Task.{Task}
use Rattle.entries.specs.Fill.{tall}
use Rattle.entries.specs.laws.Side.{lent_roomy, lent_wide}
use Rattle.filling.specs.Fill.{fill_column}
use Rattle.filling.specs.Next.{Begun, Gathered}
use Rattle.filling.specs.Recall.{ColumnTurn, ColumnFilled}
use Rattle.filling.specs.laws.Fill.{length_column, column_other, column_above}
use Rattle.filling.specs.laws.First.{lines_quiet, column_from}

-- What holds from a line on holds from an earlier one if the lines between are not reached.
told_before : {g : Galley} {w seen : List ℕ} {j line from : ℕ} → Quiet g w j g.spec.sides line from → Told g w seen j from
    → Told g w seen j line
told_before {g} {w} {j = j} {line} {from} quiet told =
    record {
      none = λ absent. quiet_then quiet (told.none absent);
      hinted = λ x here.
          let hinted = told.hinted x here in
          record { within = hinted.within; early = quiet_then quiet hinted.early; late = hinted.late };
    }

-- A filled column still stands in the work area.
pub filled_room : {bytes : List ℕ} (task : Task) {w v : List ℕ} {j : ℕ} → Lent bytes task.galley w j
    → v ≡ fill_column (model_of bytes task.galley) task.origin j (suc task.galley.text.count) 0 w → ColumnRoom task.galley v j
filled_room {bytes} task {w} {j = j} lent e =
    let room = lent_room lent in
    let sized = ap length e ∙ length_column (model_of bytes task.galley) task.origin j (suc task.galley.text.count) 0 w in
    record { wide = room.wide; two = room.two; room = rw sized room.room }

-- None of its lines before the first start is reached: they were not, and it is filled from there on.
pub filled_quiet : {bytes : List ℕ} {task : Task} {w v sums words : List ℕ} {j first : ℕ} → Gathered bytes task w sums words j
    → Begun task w j first → v ≡ fill_column (model_of bytes task.galley) task.origin j (suc task.galley.text.count) 0 w
    → Quiet task.galley v j task.galley.spec.sides task.origin.place.line first
unfolding tall
filled_quiet {bytes} {task} {w} {j = j} {first} gathered begun filled =
    let lent = gathered.column.next.lent in
    record {
      none = λ a c l m occurs.
          rw (filled ∙ sym (column_from gathered begun))
          (column_above (model_of bytes task.galley) task.origin j (lent_wide lent) a c (omega (arith, lent.sound.spec_ranged.sides_two))
          (suc task.galley.text.count - first) first w m (omega (arith, begun.found.within)) (lent_roomy lent)
          ∙ (lines_quiet gathered begun).none a c (omega arith) m occurs);
    }

module _ {bytes : List ℕ} {task : Task} {w sums words seen : List ℕ} {j : ℕ} {recall : Recall}
    (turn : ColumnTurn bytes task w sums words seen j recall) (v : List ℕ)
    (filled : v ≡ fill_column (model_of bytes task.galley) task.origin j (suc task.galley.text.count) 0 w) where
  -- Lines of the columns before that are not reached stay so,
  quiet_filled : {b from to : ℕ} → b < j → to ≤ task.galley.text.count + 1
      → Quiet task.galley w b task.galley.spec.sides from to → Quiet task.galley v b task.galley.spec.sides from to
  unfolding tall
  quiet_filled {b} before within quiet =
      let lent = turn.column.next.lent in
      record {
        none = λ a c l m occurs.
            rw filled
            (column_other (model_of bytes task.galley) task.origin j (lent_wide lent) a b c (omega arith)
            (omega (arith, lent.sound.spec_ranged.sides_two)) (λ e. omega arith) (suc task.galley.text.count) 0 w (omega arith) (lent_roomy lent)
            ∙ quiet.none a c l m occurs);
      }

  -- so that what the ring says of them holds still;
  told_filled : {new : List ℕ} {b line : ℕ} → b < j → Agrees seen new b → Told task.galley w seen b line → Told task.galley v new b line
  told_filled {new} {b} {line} before agrees told =
      record {
        none = λ absent. quiet_filled before (omega arith) (told.none (λ x here. absent x (agrees.there x here)));
        hinted = λ x here. go (told.hinted x (agrees.back x here));
      }
    where
      go : {x : ℕ} → Hinted task.galley w b line x → Hinted task.galley v b line x
      go hinted =
          record {
            within = hinted.within;
            early = quiet_filled before (omega (arith, hinted.within)) hinted.early;
            late = quiet_filled before (omega arith) hinted.late;
          }

  -- of the column itself it says what was noted, none of whose lines before is reached.
  pub column_noted : {new : List ℕ} {r : Recall} {from : ℕ}
      → Quiet task.galley v j task.galley.spec.sides task.origin.place.line from
      → Noted task.galley v seen new recall j from r → ColumnFilled bytes task w v new j r
  column_noted {new} {r} quiet noted =
      record {
        filled = filled;
        recalled = record { told = λ b l before. go b l before (dec_lt b j); named = noted.named };
        head = noted.head;
      }
    where
      go : (b : ℕ) → r.since ≤ b → b < j + 1 → Dec (b < j) → Told task.galley v new b task.origin.place.line
      go b l before (yes h) =
          told_filled h (noted.others b l h) (turn.recalled.told b (omega (arith, noted.since)) h)
      go b l before (no h) = let e : b ≡ j = omega arith in rw e (told_before quiet noted.own)
