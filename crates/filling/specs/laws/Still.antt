-- Lines of a column that no page reaches, and whose words say so: to fill them changes nothing.
use Prim.Native.Nat.{ℕ, zero, suc, ◌+◌, ◌-◌, ◌≤◌, ◌<◌}
use Rattle.std.proofs.Math.Decide.{dec_lt}
use native.Mathlib.Omega.{arith}
use Rattle.std.specs.Prelude.{◌≡◌, Bool, List, eqb, None}
use Rattle.std.proofs.Math.Path.{refl, ap}
use Rattle.std.proofs.Common.{sym, ◌∙◌, inl, inr}
use Rattle.std.proofs.Math.Bool.{true, false}
use borrow.Author.Tests.{eqb-true}
use Rattle.model.proofs.laws.Gather.{and_left, and_right}
use Rattle.galley.specs.Model.{model_of, sides_in}
use Rattle.places.specs.Address.{address}
use Rattle.places.specs.Entry.{stored}
use Rattle.places.specs.Order.{Earlier}
use Rattle.places.specs.Best.{Leads}
use Rattle.places.proofs.laws.Best.{no_reach, best_none, best_unique}
use Rattle.candidates.specs.Search.{best_start, priced, may_stop, begins, new_entry}
use Rattle.candidates.specs.Choice.{Starts, Any}
use Rattle.candidates.specs.Read.{table_in, side_of, search_of}
use Rattle.candidates.proofs.laws.Columns.{sought_in}
use Rattle.candidates.proofs.laws.Found.{best_start_lem}
use Rattle.candidates.proofs.laws.Read.{side_occurs}
use Rattle.candidates.proofs.laws.Pages.{candidate_earlier}
use Rattle.passes.proofs.laws.Lending.{lent_placed}
use Rattle.entries.specs.declared.side.Task.{Task}
use Rattle.entries.specs.Fill.{tall, fill_side, fill_sides, side_count, fill_place}
use Rattle.filling.specs.Fill.{fill_column}
use Rattle.filling.specs.Next.{Still}
use Rattle.entries.specs.laws.Entered.{sides_count}
use Rattle.entries.specs.laws.NewEntry.{entry_forbidden, entry_priced}

module _ {bytes : List ℕ} {task : Task} {w : List ℕ} {j from to : ℕ} (still : Still bytes task w j from to) where
  -- None has a start,
  start_none : (i c : ℕ) → from ≤ i → i < to → c < task.galley.spec.sides
      → best_start (search_of bytes task.galley w i j (side_of task.galley c)) ≡ None
  unfolding Leads
  start_none i c f l occurs =
      let s = search_of bytes task.galley w i j (side_of task.galley c) in
      best_unique (best_start s) None (best_start_lem s) (best_none none)
    where
      line : i ≤ task.galley.text.count
      line = omega (arith, still.within)

      none : (a b x : ℕ) → Starts (search_of bytes task.galley w i j (side_of task.galley c)) Any a b x → ⊥
      none a b x (p, start) =
          go (candidate_earlier (search_of bytes task.galley w i j (side_of task.galley c)) (sought_in bytes task.galley w i j (side_of task.galley c) (lent_placed still.lent i line)) a b x start)
          (dec_lt a from)
        where
          go : Earlier a b i j → Dec (a < from) → ⊥
          go (inl m) d =
              let known = rw (still.quiet.none i c f l occurs) at (still.waits i c line occurs (omega arith)) in
              known.leads a b x ((omega arith, m), start)
          go (inr (e, m)) (yes n) = still.above i a c x f l n occurs (rw e at start)
          go (inr (e, m)) (no n) =
              no_reach (sym (still.quiet.none a (side_of task.galley c) (omega arith) (omega arith) (side_occurs still.lent.sound c occurs))
              ∙ (rw e at start.reached.entry))

  -- and each is filled as unreached,
  entry_none : (i c : ℕ) → from ≤ i → i < to → c < task.galley.spec.sides
      → new_entry (model_of bytes task.galley) task.origin (table_in task.galley w) i j c ≡ None
  unfolding begins priced
  entry_none i c f l occurs = go (begins (sides_in task.galley) task.origin i j c) refl
    where
      go : (b : Bool) → begins (sides_in task.galley) task.origin i j c ≡ b
          → new_entry (model_of bytes task.galley) task.origin (table_in task.galley w) i j c ≡ None
      go true e =
          absurd
          (still.later i f l (
            eqb-true i _ (and_left (eqb i task.origin.place.line) _ e),
            eqb-true j _ (and_left (eqb j task.origin.place.column) _ (and_right (eqb i task.origin.place.line) _ e)),
          ))
      go false e = stop (may_stop (model_of bytes task.galley) i j c) refl
        where
          stop : (b : Bool) → may_stop (model_of bytes task.galley) i j c ≡ b
              → new_entry (model_of bytes task.galley) task.origin (table_in task.galley w) i j c ≡ None
          stop true s =
              entry_priced (model_of bytes task.galley) task.origin (table_in task.galley w) i j c e s None (start_none i c f l occurs)
          stop false s = entry_forbidden (model_of bytes task.galley) task.origin (table_in task.galley w) i j c e s

  -- which it is.
  sides_same : (i n : ℕ) → from ≤ i → i < to → n ≤ task.galley.spec.sides → fill_sides (model_of bytes task.galley) task.origin i j n w ≡ w
  unfolding fill_sides fill_side tall
  sides_same i zero f l m = refl
  sides_same i (suc n) f l m =
      ap (fill_side (model_of bytes task.galley) task.origin i j n) (sides_same i n f l (omega arith))
      ∙ ap (stored w (address (task.galley.text.count + 1) i j n)) (entry_none i n f l m)
      ∙ still.clean i n (omega (arith, still.within)) m (still.quiet.none i n f l m)

  lines_same : (k i : ℕ) → from ≤ i → k + i ≡ to
      → fill_column (model_of bytes task.galley) task.origin j (suc task.galley.text.count - i) i w
      ≡ fill_column (model_of bytes task.galley) task.origin j (suc task.galley.text.count - to) to w
  unfolding fill_column fill_place
  lines_same zero i f e = let same : i ≡ to = omega arith in rw same
  lines_same (suc k) i f e =
      let rest : suc task.galley.text.count - i ≡ suc (suc task.galley.text.count - suc i) = omega (arith, still.within) in
      let spec = still.lent.sound.spec_ranged in
      let sides = sides_count task.galley.spec.sides task.galley.folio spec.sides_some spec.sides_two in
      rw rest
      (ap (fill_column (model_of bytes task.galley) task.origin j (suc task.galley.text.count - suc i) (suc i))
      (sides_same i (side_count (sides_in task.galley)) f (omega arith) (omega (arith, sides)))
      ∙ lines_same k (suc i) (omega arith) (omega arith))

  -- What is left of the column may be filled after them.
  pub lines_still : from ≤ to
      → fill_column (model_of bytes task.galley) task.origin j (suc task.galley.text.count - from) from w
      ≡ fill_column (model_of bytes task.galley) task.origin j (suc task.galley.text.count - to) to w
  lines_still l = lines_same (to - from) from (omega arith) (omega arith)
