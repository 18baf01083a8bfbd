-- `find` meets its contract. The invariant: the layout that is sought is not before number `at`.
use borrow.Author.Rules.{rules}
use mathlib.Core.Path.{sym, ◌∙◌}
use Rattle.layouts.specs.laws.Layouts.{seek_starts, seek_here, seek_goes_on, seek_ends}
use Rattle.layouts.proofs.find.Goals as goal

pub loop-at-init : goal.loop-at-init
loop-at-init c = seek_starts _ _ (search rules)

pub returns-then-is_named : goal.returns-then-is_named
returns-then-is_named c =
    seek_here _ _ c.loop-at.invariant c.loop-at-test.true _ (sym c.is_named.ensures ∙ c.if-is_named.true)

pub loop-at-preserved : goal.loop-at-preserved
loop-at-preserved c =
    seek_goes_on _ _ c.loop-at.invariant c.loop-at-test.true _ (sym c.is_named.ensures ∙ c.if-is_named.false)

pub returns : goal.returns
returns c = seek_ends _ _ c.loop-at.invariant c.loop-at-test.false
