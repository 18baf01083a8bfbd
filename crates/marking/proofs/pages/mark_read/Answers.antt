-- `mark_read` meets its contract: rule 12 is the model's test of the list's length, and then the pages are judged.
use Rattle.std.proofs.Common.{◌∙◌, ◌/◌, length, refl, sym, ap}
use Rattle.marking.specs.laws.Listed.{counted_listed, marked_refused}
use Rattle.marking.proofs.pages.mark_read.Goals as goal

pub returns-then-not-is_counted : goal.returns-then-not-is_counted
returns-then-not-is_counted c =
    let bytes = c.args.s.now in
    let ws = c.args.list.now in
    marked_refused bytes c.args.g ws (sym (c.is_counted.ensures bytes ws refl) ∙ c.if-not-is_counted.true)

pub judge_list-requires : goal.judge_list-requires
judge_list-requires c =
    let bytes = c.args.s.now in
    let ws = c.args.list.now in
    counted_listed bytes c.args.g c.requires ws (sym (c.is_counted.ensures bytes ws refl) ∙ c.if-not-is_counted.false) _
    (ap (λ k. length ws / k) c.page_words.ensures.1)
