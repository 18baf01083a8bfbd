-- `last_sweep` meets its contract. The loop's invariant is `LastRun`: the column is filled above line i, and the queues hold
-- the starts of the window. Above the first line nothing is reached, so that the column is as if filled there; and so are the lines that
-- are left where no line from the window's first on is reached or has a start.
use native.Mathlib.Omega.{arith}
use mathlib.Core.Path.{◌≡◌, ◌∙◌}
use Rattle.rules.specs.laws.Walked.{waiting_few}
use Rattle.window.specs.Slide.{Slid}
use Rattle.candidates.specs.Read.{counts_at}
use Rattle.candidates.proofs.laws.Columns.{within_at}
use Rattle.pricing.specs.Stop.{floats_say}
use Rattle.entries.specs.Next.{plain}
use Rattle.filling.specs.laws.Column.{first_slides, last_first, last_done, last_slides, last_over, last_place_lem, last_next}
use borrow.Author.Rules.{rules}
use Rattle.filling.proofs.fill.last_sweep.Goals as goal
use Rattle.filling.proofs.fill.last_sweep.Goals.{After-end_at-end, After-slide-span-in-loop-i}

pub floats_of-floats-requires : goal.floats_of-floats-requires
floats_of-floats-requires c =
    let lent = c.requires.gathered.column.next.lent in
    record {
      sound = lent.sound;
      within = rw c.counts_at-top.ensures (within_at c.args.task.galley 0 c.args.j (omega arith) lent.column);
    }

pub slide-span-requires : goal.slide-span-requires
slide-span-requires c =
    rw (c.shut-shut.ensures, c.load_of-load.ensures, c.floor_of-least.ensures c.args.s.now) (first_slides c.requires)

pub loop-i-init : goal.loop-i-init
loop-i-init c =
    last_first c.requires c.slide-span.result
    (rw (c.shut-shut.ensures, c.load_of-load.ensures, c.floor_of-least.ensures c.args.s.now) at c.slide-span.ensures)

pub slide-span-requires-in-loop-i : goal.slide-span-requires-in-loop-i
slide-span-requires-in-loop-i c =
    rw (c.load_of-load.ensures, c.floor_of-least.ensures c.args.s.now)
    (last_slides c.requires c.loop-i.invariant (omega (arith, c.loop-i-test.true)))

-- The window is moved on under the load of pages of lines alone.
slid : (c : After-slide-span-in-loop-i)
    → Slid c.args.sums.now
    (plain c.args.task)
    c.loop-i.span c.loop-i.i c.slide-span-in-loop-i.result
slid c =
    rw (c.load_of-load.ensures, c.floor_of-least.ensures c.args.s.now) at c.slide-span-in-loop-i.ensures

-- Nothing more is reached.
pub returns-in_default : goal.returns-in_default
returns-in_default c =
    last_over c.requires c.loop-i.invariant (omega (arith, c.loop-i-test.true)) c.slide-span-in-loop-i.result (slid (goal.at.returns-in_default c).After-slide-span-in-loop-i)
    _ c.in_default.ensures.onward (omega arith)

pub end_at-end-requires : goal.end_at-end-requires
end_at-end-requires c =
    let sound = c.requires.gathered.column.next.lent.sound in
    let top = c.counts_at-top.result in
    let few = waiting_few sound (record { lines = c.loop-i.i; figures = top.figures; tables = top.tables }) in
    (sound.text, rw c.waiting_after-waiting.ensures few)

-- What the floats of the column's top say, they say at each of its lines.
say : (c : After-end_at-end)
    → c.floats_of-floats.result
    ≡ floats_say c.args.s.now c.args.task.galley
    (counts_at c.args.task.galley c.loop-i.i c.args.j)
say c = c.floats_of-floats.ensures ∙ rw c.counts_at-top.ensures

pub fill_place-requires : goal.fill_place-requires
fill_place-requires c =
    let top = c.counts_at-top.ensures in
    rw (c.end_at-end.ensures, top)
    (last_place_lem c.requires c.loop-i.invariant (omega (arith, c.loop-i-test.true)) c.slide-span-in-loop-i.result (slid (goal.at.fill_place-requires c).After-slide-span-in-loop-i)
    c.waiting_after-waiting.result (rw top at c.waiting_after-waiting.ensures) c.floats_of-floats.result (say (goal.at.fill_place-requires c).After-end_at-end))

pub loop-i-preserved : goal.loop-i-preserved
loop-i-preserved c =
    let top = c.counts_at-top.ensures in
    last_next c.requires c.loop-i.invariant (omega (arith, c.loop-i-test.true)) c.slide-span-in-loop-i.result (slid (goal.at.loop-i-preserved c).After-slide-span-in-loop-i)
    c.waiting_after-waiting.result (rw top at c.waiting_after-waiting.ensures) c.floats_of-floats.result (say (goal.at.loop-i-preserved c).After-end_at-end)
    _ c.in-Some.ensures.onward c.in-Some.ensures.within _ _
    (search rules) _
    (rw (c.end_at-end.ensures, top) at c.fill_place.ensures)

pub returns : goal.returns
returns c = last_done c.requires c.loop-i.invariant (omega (arith, c.loop-i-test.false))
