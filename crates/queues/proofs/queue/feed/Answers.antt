-- `feed` meets its contract. The loop's invariant: what was held of the lines before `from` is held of those before a; a
-- turn passes an unreached line, or drops what is no cheaper and pushes a reached one.
use Prim.Native.Nat.{ℕ, ◌+◌, ◌*◌, ◌≤◌}
use native.Mathlib.Omega.{arith}
use mathlib.Core.Path.{◌≡◌, sym, ap, subst, ◌∙◌}
use mathlib.Core.List.{List}
use lib.ListN.{length}
use Rattle.places.specs.Best.{Paid}
use Rattle.window.specs.Rows.{Beside, pushed}
use Rattle.queues.specs.Queue.{added_of, lines_in, tailed, queued, Held}
use Rattle.queues.proofs.laws.Held.{paid_of, held_passed}
use Rattle.window.specs.laws.Rows.{pushed_length, pushed_beside}
use Rattle.queues.proofs.laws.Pushed.{held_pushed}
use Rattle.queues.proofs.queue.feed.Goals as goal
use Rattle.queues.proofs.queue.feed.Goals.{After-entry_of-entry}

-- The entry of line a in the column.
read : (c : After-entry_of-entry)
    → lines_in c.args.work.now
    c.args.source c.loop-a.a
    ≡ c.entry_of-entry.result
read c = sym (rw c.place_of-place.ensures at c.entry_of-entry.ensures)

pub loop-a-preserved-in_default : goal.loop-a-preserved-in_default
loop-a-preserved-in_default c =
    let a = c.args in
    let st = c.loop-a in
    let none = read (goal.at.loop-a-preserved-in_default c).After-entry_of-entry ∙ c.in_default.is in
    record {
      start = omega arith;
      within = omega arith;
      order = st.invariant.order;
      short = omega (arith, st.invariant.short);
      beside = st.invariant.beside;
      sized = st.invariant.sized;
      held = λ low h.
          held_passed (lines_in a.work.now a.source) (added_of a.sums.now a.queue.lacks) st.words
          (tailed a.queue st.tail) low st.a none (st.invariant.held low h);
    }

pub loop-a-preserved : goal.loop-a-preserved
unfolding pushed
loop-a-preserved c =
    let st = c.loop-a in
    let a = c.args in
    let col = lines_in a.work.now a.source in
    let add = added_of a.sums.now a.queue.lacks in
    let t = c.drop_dearer-tail.result in
    let x = c.in-Some.found.cost in
    let more = c.added-more.result in
    let drops = rw c.from.ensures at c.drop_dearer-tail.ensures in
    let new : c.put.new.words ≡ queued st.words t st.a (x + more) =
    rw (c.place_of-place.ensures, c.high_of.ensures, c.low_of.ensures, c.from.ensures) at c.put.ensures in
    let here : Paid (col st.a) (add st.a) (x + more) =
    paid_of x (add st.a) (x + more) (read (goal.at.loop-a-preserved c).After-entry_of-entry ∙ c.in-Some.is) (omega (arith, c.added-more.ensures)) in
    let room : 3 * t + 3 ≤ length st.words =
    omega (arith, drops.to, st.invariant.short, st.invariant.sized, c.requires.room, c.loop-a-test.true) in
    record {
      start = omega (arith, st.invariant.start);
      within = omega (arith, c.loop-a-test.true);
      order = omega (arith, drops.from);
      short = omega (arith, drops.to, st.invariant.short);
      beside = subst (λ (w : List ℕ). Beside a.words.now w a.queue.base (a.queue.base + a.to)) (sym new)
          (pushed_beside st.words t _ _ _ (omega (arith, c.requires.based, drops.from))
          (omega (arith, drops.to, st.invariant.short, c.loop-a-test.true)) st.invariant.beside);
      sized = ap length new ∙ pushed_length st.words t _ _ _ ∙ st.invariant.sized;
      held = λ low h.
          subst (λ (w : List ℕ). Held col add w (tailed a.queue (t + 1)) low (st.a + 1)) (sym new)
          (held_pushed col add st.words (tailed a.queue st.tail) low st.a (x + more) t here drops room
          (st.invariant.held low h));
    }

pub returns : goal.returns
returns c =
    let a = c.args in
    let st = c.loop-a in
    let done : st.a ≡ a.to = omega (arith, st.invariant.within, c.loop-a-test.false) in
    record {
      order = st.invariant.order;
      short = omega (arith, st.invariant.short);
      beside = st.invariant.beside;
      held = λ low h.
          subst (Held (lines_in a.work.now a.source) (added_of a.sums.now a.queue.lacks) st.words
          (tailed a.queue st.tail) low) done (st.invariant.held low h);
    }
