-- `window_of` meets its contract: on a further side it reads what is kept, and on side 0 it stores what `slide` finds.
use Prim.Native.Nat.{◌+◌, ◌*◌, ◌≤◌}
use native.Mathlib.Nat.{le_refl}
use native.Mathlib.Omega.{arith}
use lib.ListN.{length}
use Rattle.window.specs.Rows.{pushed}
use Rattle.window.specs.laws.Rows.{beside_none}
use Rattle.window.specs.laws.Rows.{pushed_beside}
use Rattle.window.specs.laws.Windows.{window_stored}
use Rattle.window.proofs.windows.window_of.Goals as goal

pub returns : goal.returns
unfolding pushed
returns c =
    let a = c.args in
    let slid = c.slide-window in
    let room : 3 * (a.i + 8000) + 3 ≤ length a.words.now = omega (arith, c.requires.few, c.requires.room) in
    rw c.put.ensures
    (record {
      kept = window_stored a.words.now a.i slid.result room;
      beside = pushed_beside a.words.now (a.i + 8000) _ _ _ (le_refl (a.i + 8000)) (omega arith) (beside_none _ _ _);
      opens = λ st m sums within ends kept. slid.ensures.opens st m sums within ends;
    })
