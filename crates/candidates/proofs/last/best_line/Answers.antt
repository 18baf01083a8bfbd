-- `best_line` meets its contract. The loop's invariant: of the window's lines before a the entry is the best.
use native.Mathlib.Omega.{arith}
use mathlib.Core.Logic.{inr}
use Rattle.queues.specs.Queue.{lines_of}
use Rattle.candidates.proofs.laws.Lines.{lines_next, lines_all}
use Rattle.candidates.proofs.last.best_line.Goals as goal

pub loop-a-preserved : goal.loop-a-preserved
loop-a-preserved c =
    let st = c.loop-a in
    let a = c.args in
    let col = lines_of a.work.now a.tall a.column a.side in (
      inr (omega (arith, c.loop-a-test.true)),
      rw (c.choose-best.ensures, c.start_at.ensures, c.entry_of-entry.ensures, c.place_of-place.ensures)
          (lines_next col (λ a. 0) a.column a.window.low st.a st.best (omega (arith, st.auto)) st.invariant.1),
    )

pub returns : goal.returns
returns c =
    let st = c.loop-a in
    let a = c.args in
    lines_all (lines_of a.work.now a.tall a.column a.side) (λ a. 0) a.column a.window.low a.window.high st.a st.best
    st.invariant.0 (omega (arith, c.loop-a-test.false)) st.invariant.1
