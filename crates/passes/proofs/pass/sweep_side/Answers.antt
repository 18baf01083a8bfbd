-- `sweep_side` meets its contract. The loop's invariant is `SideRun`: the lines above line i know the starts of the pass too. A turn
-- passes over a line whose place holds less than they cost, or weighs them.
use native.Mathlib.Omega.{arith}
use Rattle.candidates.proofs.laws.Columns.{columns_few, few_floats}
use Rattle.passes.proofs.laws.Begin.{side_reaches, side_stands, side_first}
use Rattle.passes.proofs.laws.Side.{side_last, side_line, side_slides, side_compares, side_beaten, side_moves, side_fronted, side_ended, side_next}
use borrow.Author.Rules.{rules}
use Rattle.passes.proofs.pass.sweep_side.Goals as goal

pub too_tall-several-requires : goal.too_tall-several-requires
too_tall-several-requires c = rw c.load-load.ensures (side_reaches c.requires)

pub bound_side-since-requires : goal.bound_side-since-requires
bound_side-since-requires c = rw c.side_before-side.ensures (side_stands c.requires)

pub loop-i-init : goal.loop-i-init
loop-i-init c =
    rw (c.shut-fed.ensures, c.shut-starts.ensures, c.no_parts-parts.ensures, c.load-load.ensures)
    (side_first c.requires _
    (search rules) _
    (rw c.side_before-side.ensures at c.bound_side-since.ensures))

pub window_of-starts-requires : goal.window_of-starts-requires
window_of-starts-requires c =
    rw c.load-load.ensures
    (side_slides c.requires c.loop-i.invariant c.loop-i-test.true)

pub place_of-place-requires : goal.place_of-place-requires
place_of-place-requires c =
    record {
      line = omega (arith, c.requires.lent.sound.few_lines, side_line c.requires c.loop-i.invariant c.loop-i-test.true);
      column = omega (arith, c.requires.lent.column, columns_few c.args.g (few_floats c.requires.lent.sound));
    }

pub beaten-requires : goal.beaten-requires
beaten-requires c =
    rw c.place_of-place.ensures
    (side_compares c.requires c.loop-i.invariant c.loop-i-test.true _
    (search rules) c.window_of-starts.result
    (rw c.load-load.ensures at c.window_of-starts.ensures))

pub loop-i-preserved-then-beaten : goal.loop-i-preserved-then-beaten
loop-i-preserved-then-beaten c =
    side_beaten c.requires c.loop-i.invariant c.loop-i-test.true _
    (search rules) c.window_of-starts.result
    (rw c.load-load.ensures at c.window_of-starts.ensures)
    (rw c.place_of-place.ensures at (c.beaten.ensures c.if-beaten.true))

pub move_on-parts-requires : goal.move_on-parts-requires
move_on-parts-requires c =
    rw c.side_before-side.ensures
    (side_moves c.requires c.loop-i.invariant c.loop-i-test.true _
    (search rules) c.window_of-starts.result
    (rw c.load-load.ensures at c.window_of-starts.ensures))

pub best_front-lines-requires : goal.best_front-lines-requires
best_front-lines-requires c =
    let load = c.load-load.ensures in
    rw load
    (side_fronted c.requires c.loop-i.invariant c.loop-i-test.true _
    (search rules) c.window_of-starts.result
    (rw load at c.window_of-starts.ensures) _
    (search (rules, c.words-in-loop-i-2-1.given)) c.move_on-parts.result
    (rw c.side_before-side.ensures at c.move_on-parts.ensures))

pub improve-requires : goal.improve-requires
improve-requires c = side_ended c.requires c.loop-i.invariant c.loop-i-test.true

pub loop-i-preserved : goal.loop-i-preserved
loop-i-preserved c =
    let load = c.load-load.ensures in
    side_next c.requires c.loop-i.invariant c.loop-i-test.true _
    (search rules) c.window_of-starts.result
    (rw load at c.window_of-starts.ensures) _
    (search (rules, c.words-in-loop-i-2-1.given)) c.move_on-parts.result
    (rw c.side_before-side.ensures at c.move_on-parts.ensures) _
    (rw (c.best_front-lines.ensures, load) at c.improve.ensures)

pub returns : goal.returns
returns c =
    side_last c.requires c.loop-i.invariant
    c.loop-i-test.false
