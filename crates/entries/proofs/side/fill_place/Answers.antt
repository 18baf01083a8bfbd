-- `fill_place` meets its contract. The loop's invariant is `SidesRun`: the sides before c are filled.
use mathlib.Core.Path.{◌≡◌}
use lib.Dec.{eqb}
use Rattle.queues.specs.Parts.{row_put}
use Rattle.pricing.specs.Stop.{turns_on}
use Rattle.pricing.specs.laws.Price.{turns_on_lem}
use Rattle.entries.specs.laws.Sides.{sides_first, sides_last, sides_side, sides_next}
use borrow.Author.Rules.{rules}
use Rattle.entries.proofs.side.fill_place.Goals as goal
use Rattle.entries.proofs.side.fill_place.Goals.{In-loop-c}

pub loop-c-init : goal.loop-c-init
loop-c-init c = sides_first c.requires

-- The leaf of a side ends with it if it is the side whose pages end theirs.
turned : (c : In-loop-c)
    → eqb c.loop-c.c c.ending_side-ending.result
    ≡ turns_on c.args.task.galley c.loop-c.c
turned c =
    let sound = c.requires.next.lent.sound in
    rw c.ending_side-ending.ensures
    (turns_on_lem c.args.task.galley c.loop-c.c sound.some_folio sound.spec_ranged.sides_two c.loop-c-test.true)

pub fill_side-requires : goal.fill_side-requires
fill_side-requires c =
    rw c.parts_of-parts.ensures
    (sides_side c.requires c.loop-c.invariant c.loop-c-test.true _ (turned (goal.at.fill_side-requires c).In-loop-c))

pub loop-c-preserved : goal.loop-c-preserved
unfolding row_put
loop-c-preserved c =
    rw c.put.ensures
    (sides_next c.requires c.loop-c.invariant
    c.loop-c-test.true _ (turned (goal.at.loop-c-preserved c).In-loop-c) _ _ (search rules)
    c.fill_side.result (rw c.parts_of-parts.ensures at c.fill_side.ensures))

pub returns : goal.returns
returns c =
    sides_last c.requires c.loop-c.invariant c.loop-c-test.false
