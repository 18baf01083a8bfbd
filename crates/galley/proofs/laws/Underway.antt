-- Reading under way: what is known of the galley so far, and that reading from here gives what the whole reading gives.
use Prim.Native.Nat.{ℕ, zero, suc, ◌+◌, ◌-◌, ◌≤◌, ◌<◌}
use Rattle.std.proofs.Common.{arith, ◌∙◌}
use Rattle.std.specs.Prelude.{List, ◌≡◌, refl}
use Rattle.std.proofs.Math.Path.{sym}
use Rattle.std.proofs.Math.ListN.{length}
use Rattle.galley.specs.Place.{spec}
use Rattle.galley.specs.Whole.{Small, Opened, beginning, settled, step_from, read_from, galley_of, Reading}
use Rattle.galley.proofs.laws.Reached.{Reached, reached_none}
use Rattle.galley.proofs.laws.Step.{Fine, reached_opened, step_fine}
use Rattle.galley.specs.declared.Sofar.{Sofar}
use Rattle.std.specs.declared.ops.ControlFlow.TheVariants.{Break, Continue}

-- After a record, reading goes on from there.
pub read_on : (bytes : List ℕ) (turns : ℕ) (so next : Sofar) → step_from bytes so ≡ Continue next
    → read_from bytes (suc turns) so ≡ read_from bytes turns next
unfolding read_from settled
read_on bytes turns so next e = rw e

-- There are still as many turns as bytes, and one more.
pub record Underway (bytes : List ℕ) (so : Sofar) : Type 0 where
  pub reached : Reached bytes so
  pub turns : ℕ
  pub enough : length bytes ≤ turns + so.at
  pub run : read_from bytes (suc turns) so ≡ galley_of bytes

pub underway_none : (bytes : List ℕ) → Underway bytes beginning
unfolding galley_of
underway_none bytes = record { reached = reached_none bytes; turns = length bytes; enough = omega arith; run = refl }

-- Small counts and offsets.
pub underway_small : {bytes : List ℕ} {so : Sofar} → Underway bytes so → Small so
underway_small u =
    let s = u.reached.shape in
    record { counts = u.reached.count; ats = omega arith; firsts = omega arith; lines = s.few_lines; figures = omega arith }

-- Once the specification was read, it stands at the start.
pub underway_opened : {bytes : List ℕ} {so : Sofar} → Underway bytes so → spec ≤ so.stage → Opened bytes
underway_opened u begun = reached_opened u.reached begun

module _ {bytes : List ℕ} {so : Sofar} (u : Underway bytes so) where
  -- Reading goes on, farther on.
  pub underway_farther : {next : Sofar} → step_from bytes so ≡ Continue next → length bytes - next.at < length bytes - so.at
  unfolding Fine
  underway_farther e =
      let fine = rw e at (step_fine bytes so u.reached) in
      omega (arith, fine.0, fine.1.shape.within)

  pub underway_on : {next : Sofar} → step_from bytes so ≡ Continue next → Underway bytes next
  unfolding Fine
  underway_on {next} e =
      let fine = rw e at (step_fine bytes so u.reached) in
      go u.turns u.enough u.run fine.0 fine.1
    where
      go : (turns : ℕ) → length bytes ≤ turns + so.at → read_from bytes (suc turns) so ≡ galley_of bytes → so.at < next.at
          → Reached bytes next → Underway bytes next
      go zero enough run far r = absurd (omega (arith, r.shape.within))
      go (suc turns) enough run far r =
          record { reached = r; turns = turns; enough = omega arith; run = sym (read_on bytes (suc turns) so next e) ∙ run }

  -- Reading is done.
  pub underway_done : {reading : Reading} → step_from bytes so ≡ Break reading → reading ≡ galley_of bytes
  unfolding read_from settled
  underway_done e = rw e at u.run
