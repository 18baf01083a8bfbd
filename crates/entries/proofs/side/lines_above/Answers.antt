-- `lines_above` meets its contract: by the queues, or line by line for the last page.
use mathlib.Core.Path.{sym, ◌∙◌}
use borrow.Author.Tests.{not-false}
use Rattle.entries.specs.laws.NewEntry.{above_stand, above_last}
use Rattle.entries.proofs.side.lines_above.Goals as goal

pub last_lines-requires : goal.last_lines-requires
last_lines-requires c =
    let full = not-false c.args.end.stop.full c.if-not-end.false in
    rw (c.side_before-side.ensures, c.load_of-load.ensures, c.floor_of-least.ensures c.args.s.now, full)
    (above_stand c.requires (sym c.requires.full ∙ full))

pub returns : goal.returns
returns c =
    let full = not-false c.args.end.stop.full c.if-not-end.false in
    above_last c.requires (sym c.requires.full ∙ full) c.last_lines.result
    (rw (c.side_before-side.ensures, c.load_of-load.ensures, c.floor_of-least.ensures c.args.s.now, full)
    at c.last_lines.ensures)
