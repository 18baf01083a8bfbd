-- `make_from` meets its contract: whatever limit was enough, the work area that was filled is cleared of all that filling wrote, and the
-- count is that of the galley from the opening's end on.
use borrow.Author.Rules.{rules}
use native.Mathlib.Omega.{arith}
use Rattle.galley.proofs.laws.Sound.{sound}
use Rattle.candidates.proofs.laws.Columns.{few_floats, columns_few}
use Rattle.making.specs.laws.Made.{soluble_fillable, soluble_placed, soluble_solved, soluble_first, soluble_early, sought_early, made_best}
use Rattle.making.proofs.make_from.Goals as goal

pub best_pages-answer-requires : goal.best_pages-answer-requires
best_pages-answer-requires c =
    soluble_solved c.requires _ _ c.fill_far-sought.ensures

pub words_needed-early-requires : goal.words_needed-early-requires
words_needed-early-requires c =
    let pre = c.requires in
    let fill = soluble_fillable pre in
    record { lines = fill.sound.few_lines; columns = omega (arith, fill.origin, columns_few _ (few_floats fill.sound)) }

pub clear-requires : goal.clear-requires
clear-requires c =
    let pre = c.requires in
    rw c.words_needed-early.ensures (soluble_early pre, search rules, sought_early pre _ _ c.fill_far-sought.ensures)

pub counts_at-first-requires : goal.counts_at-first-requires
counts_at-first-requires c = few_floats (sound _ _ c.requires.reads)

pub weighed-weighed-requires : goal.weighed-weighed-requires
weighed-weighed-requires c =
    let pre = c.requires in
    (sound _ _ pre.reads, rw c.counts_at-first.ensures (soluble_first pre))

pub returns : goal.returns
returns c =
    made_best c.requires _ _ _ _ _ _ c.fill_far-sought.ensures c.clear.ensures
    c.best_pages-answer.ensures (rw c.counts_at-first.ensures at c.weighed-weighed.ensures)

pub first_limit-turns-requires : goal.first_limit-turns-requires
first_limit-turns-requires c = soluble_placed c.requires

pub fill_far-sought-requires : goal.fill_far-sought-requires
fill_far-sought-requires c = soluble_fillable c.requires
