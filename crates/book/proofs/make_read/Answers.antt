-- `make_read` meets its contract: 9, then 10; else the book is bound in the words that it needs, which are cleared afterwards.
use borrow.Author.Rules.{rules}
use native.Mathlib.Omega.{arith}
use lib.Seq.{length-take-le}
use mathlib.Core.Path.{refl, sym}
use Rattle.book.specs.laws.Bound.{book_small, bound_work, bound_list, bound_lent, bound_best}
use Rattle.book.proofs.make_read.Goals as goal

pub slice_bounds-bind-end-2 : goal.slice_bounds-bind-end-2
slice_bounds-bind-end-2 c = sym (length-take-le _ _ (search rules))

pub bind-made-requires : goal.bind-made-requires
bind-made-requires c =
    let args = c.args in
    bound_lent c.requires args.work.now args.pages.now (omega (arith, c.if-work-needed.false)) (omega (arith, c.if-pages-book.false))

pub returns-then-work-needed : goal.returns-then-work-needed
returns-then-work-needed c = bound_work c.requires _ _ c.if-work-needed.true _ c.refused.ensures

pub returns-then-pages-book : goal.returns-then-pages-book
returns-then-pages-book c =
    let args = c.args in
    bound_list c.requires args.work.now args.pages.now (omega (arith, c.if-work-needed.false)) c.if-pages-book.true _ c.refused-then-pages-book.ensures

pub returns : goal.returns
returns c =
    let args = c.args in
    bound_best c.requires args.work.now args.pages.now (omega (arith, c.if-work-needed.false)) (omega (arith, c.if-pages-book.false)) _ _ _ _
    c.bind-made.ensures c.clear.ensures

pub overflow_mul-needed : goal.overflow_mul-needed
overflow_mul-needed c = omega (arith, (book_small c.requires).0)

pub overflow_cast-needed : goal.overflow_cast-needed
overflow_cast-needed c = omega (arith, (book_small c.requires).0)

pub overflow_cast-book : goal.overflow_cast-book
overflow_cast-book c = omega (arith, (book_small c.requires).1)

pub clear-requires : goal.clear-requires
clear-requires c = (omega arith, search rules, refl)
