-- `fill_column` meets its contract: what the sweeps leave is what the last one asks for, and it fills the column as if they had left
-- nothing. Where the column has no start they leave it filled. Whatever is known of the columns before it stays known.
use mathlib.Core.Path.{refl, ◌∙◌}
use native.Mathlib.Omega.{arith}
use Rattle.entries.specs.laws.Before.{columns_past}
use Rattle.filling.specs.laws.First.{column_none}
use Rattle.filling.specs.laws.Column.{column_last, scratched_same}
use Rattle.reached.proofs.laws.Recall.{noted_none}
use Rattle.filling.specs.laws.Recall.{filled_quiet, column_noted}
use borrow.Author.Rules.{rules}
use Rattle.filling.proofs.fill.fill_column.Goals as goal

pub sweep_column-any-requires : goal.sweep_column-any-requires
sweep_column-any-requires c =
    let asked = c.requires in
    rw c.counts_at-origin.ensures
    (record {
      lent = asked.column.next.lent;
      blank = asked.blank;
      past = columns_past asked.column.next;
      recalled = asked.recalled;
      summed = asked.column.summed;
      scratch = asked.column.scratch;
    })

pub returns-in_default : goal.returns-in_default
returns-in_default c =
    column_noted c.requires _
    (column_none (column_last c.requires.column _ c.args.words.now refl c.sweep_column-any.ensures) c.in_default.ensures.begun
    (omega arith)
    ∙ scratched_same c.requires.column.next _ c.sweep_column-any.ensures.kept)
    c.in_default.ensures.begun.found.quiet
    (noted_none c.args.recall c.requires.head c.requires.recalled.named (record { none = λ a d l m. absurd (omega arith) }))

pub last_sweep-requires : goal.last_sweep-requires
last_sweep-requires c =
    record {
      gathered =
          column_last c.requires.column _ _ (search rules)
          c.sweep_column-any.ensures;
      begun = c.in-Some.ensures.begun;
      within = c.in-Some.ensures.within;
    }

pub returns : goal.returns
returns c =
    column_noted c.requires _
    (c.last_sweep.ensures ∙ scratched_same c.requires.column.next _ c.sweep_column-any.ensures.kept)
    (filled_quiet (column_last c.requires.column _ c.args.words.now refl c.sweep_column-any.ensures) c.in-Some.ensures.begun c.last_sweep.ensures)
    c.note.ensures
