-- `next_chapter` meets its contract: the chapter is made in what is left of the page list behind the chapters before it.
use mathlib.Core.Path.{refl}
use Rattle.needs.specs.laws.Needs.{page_few}
use Rattle.course.specs.laws.Course.{next_makeable, next_made}
use Rattle.course.proofs.next_chapter.Goals as goal

pub make_chapter-answer-requires : goal.make_chapter-answer-requires
make_chapter-answer-requires c =
    rw (c.closing_side-side.ensures, c.on_folio-g.ensures)
    (next_makeable c.requires _ c.galley_in.ensures _ refl)

pub returns : goal.returns
returns c =
    next_made c.requires _ c.galley_in.ensures _ _ _ _ _ refl
    (rw (c.closing_side-side.ensures, c.on_folio-g.ensures) at c.make_chapter-answer.ensures) refl _
    (rw (c.page_words.ensures.1, c.on_folio-g.ensures) at c.with_chapter.ensures)

pub closing_side-side-requires : goal.closing_side-side-requires
closing_side-side-requires c = (c.requires.leads.folio, c.requires.leads.after)

pub with_chapter-requires : goal.with_chapter-requires
with_chapter-requires c = (c.requires.small, rw c.page_words.ensures.1 (page_few c.on_folio-g.result))
