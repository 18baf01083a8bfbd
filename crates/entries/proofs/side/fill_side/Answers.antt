-- `fill_side` meets its contract: the queues move on by `move_on`, and the entry is stored at its place.
use mathlib.Core.Path.{◌∙◌}
use native.Mathlib.Omega.{arith}
use Rattle.candidates.proofs.laws.Columns.{few_floats, columns_few}
use Rattle.passes.proofs.laws.Lending.{can_stand}
use Rattle.entries.specs.Fill.{tall, fill_side}
use Rattle.entries.specs.laws.Side.{side_either_here, side_moves, side_entry}
use borrow.Author.Rules.{rules}
use Rattle.entries.proofs.side.fill_side.Goals as goal

pub move_on-moved-requires : goal.move_on-moved-requires
move_on-moved-requires c =
    rw c.side_before.ensures (side_moves c.requires)

pub new_entry-entry-requires : goal.new_entry-entry-requires
new_entry-entry-requires c =
    side_entry c.requires _
    (search rules) c.move_on-moved.result
    (rw c.side_before.ensures at c.move_on-moved.ensures)

pub place_of-place-requires : goal.place_of-place-requires
place_of-place-requires c =
    let next = c.requires in
    record {
      line = omega (arith, next.ending.line, next.next.lent.sound.few_lines);
      column = omega (arith, next.next.lent.column, columns_few _ (few_floats next.next.lent.sound));
    }

pub store-requires : goal.store-requires
store-requires c =
    let e = c.args.end in
    rw c.place_of-place.ensures
    (can_stand c.requires.next.lent e.at.lines e.column e.side c.requires.ending.line c.requires.next.lent.column
    (side_either_here c.requires))

pub returns : goal.returns
unfolding fill_side tall
returns c =
    record {
      filled = c.store.ensures ∙ rw (c.place_of-place.ensures, c.new_entry-entry.ensures);
      moved = rw c.side_before.ensures at c.move_on-moved.ensures;
    }
