-- `read_book` meets its contract: 28, the first chapter's own refusal, or the later chapters.
use native.Mathlib.Omega.{arith}
use mathlib.Core.Path.{sym, ◌∙◌, ap}
use lib.Seq.{length-take-le}
use Rattle.std.proofs.lemmas.Result.{err_from_is_err_and}
use Rattle.chapters.specs.Book.{reading_of}
use Rattle.chapters.specs.laws.Lengths.{adding}
use Rattle.chapters.specs.laws.Opening.{unadded, added, first_within, first_refused}
use Rattle.chapters.proofs.laws.ReadAs.{read_ok, read_err}
use Rattle.chapters.proofs.read_book.Goals as goal

pub returns-then-not-add_up : goal.returns-then-not-add_up
returns-then-not-add_up c = unadded _ _ (sym c.add_up.ensures ∙ c.if-not-add_up.true)

pub bounds-lengths-0 : goal.bounds-lengths-0
bounds-lengths-0 c = let s = c.args in
    omega (arith, (adding s.galleys.now s.lengths.now (sym c.add_up.ensures ∙ c.if-not-add_up.false)).some)

pub slice_bounds-chapter_read-end : goal.slice_bounds-chapter_read-end
slice_bounds-chapter_read-end c = let s = c.args in
    sym (length-take-le _ s.galleys.now (omega (arith, first_within s.galleys.now s.lengths.now (sym c.add_up.ensures ∙ c.if-not-add_up.false))))

pub returns-in_err-first : goal.returns-in_err-first
returns-in_err-first c =
    let (n, e, same) = read_err _ _ _ (sym c.chapter_read.ensures ∙ c.in_err-first.was) in
    let p = err_from_is_err_and c.from_residual.result c.from_residual.ensures.1 in
    rw (p.1, p.2, ← same) (first_refused _ _ n (sym c.add_up.ensures ∙ c.if-not-add_up.false) e)

pub read_later-requires : goal.read_later-requires
read_later-requires c =
    record { adds = sym c.add_up.ensures ∙ c.if-not-add_up.false; reads = read_ok _ _ _ (sym c.chapter_read.ensures ∙ c.in_ok-first.was) }

pub returns : goal.returns
returns c = c.read_later.ensures ∙ ap reading_of (sym (added _ _ (sym c.add_up.ensures ∙ c.if-not-add_up.false)))
