-- `unfit_after` meets its contract: 29, then 30.
use mathlib.Core.Path.{◌≡◌, refl}
use mathlib.Core.Bool.{Bool, true, false, not}
use Rattle.chapters.specs.Book.{alike}
use Rattle.chapters.specs.Steps.{unfit_after}
use Rattle.chapters.proofs.unfit_after.Goals as goal
use Rattle.chapters.proofs.unfit_after.Goals.{After-ne}

-- The derived comparison is that of the definition.
unlike : (c : After-ne) → c.ne.result ≡ not (alike c.args.first c.args.g.spec)
unfolding alike
unlike c = c.ne.ensures

likeness : (a b : Bool) → b ≡ not a → not b ≡ a
likeness true b e = rw e refl
likeness false b e = rw e refl

pub returns-then-ne : goal.returns-then-ne
unfolding unfit_after
returns-then-ne c = let h = likeness _ _ (unlike (goal.at.returns-then-ne c).After-ne) in rw (← h, c.if-ne.true) refl

pub returns-then-has_folio : goal.returns-then-has_folio
unfolding unfit_after
returns-then-has_folio c =
    let h = likeness _ _ (unlike (goal.at.returns-then-has_folio c).After-ne) in rw (← h, c.if-ne.false, ← c.has_folio.ensures, c.if-has_folio.true) refl

pub returns : goal.returns
unfolding unfit_after
returns c = let h = likeness _ _ (unlike (goal.at.returns c).After-ne) in rw (← h, c.if-ne.false, ← c.has_folio.ensures, c.if-has_folio.false) refl
