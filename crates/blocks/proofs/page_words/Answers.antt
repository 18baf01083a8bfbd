-- `blocks::page_words` meets its contract: its test is that of `page_words`.
use borrow.Author.Tests.{eq-eqb, ne_eqb}
use mathlib.Core.Path.{◌≡◌, sym, ◌∙◌}
use Rattle.blocks.specs.laws.Counts.{streams_of_lem}
use Rattle.blocks.specs.Counts.{page_words}
use Rattle.blocks.proofs.page_words.Goals as goal

pub returns-then-g-eq0 : goal.returns-then-g-eq0
returns-then-g-eq0 c =
    let g = c.args.g in
    let two : 2 ≡ page_words g = rw (eq-eqb _ _ c.if-g-eq0.true) in
    (λ bytes. two ∙ sym (streams_of_lem g bytes), two)

pub returns-else-g-eq0 : goal.returns-else-g-eq0
returns-else-g-eq0 c =
    let g = c.args.g in
    let three : 3 ≡ page_words g = rw (ne_eqb _ _ c.if-g-eq0.false) in
    (λ bytes. three ∙ sym (streams_of_lem g bytes), three)
