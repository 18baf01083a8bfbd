-- `best_end` tells the folio after the best choice: each way out is a case of the definition.
use mathlib.Core.Path.{sym, ◌∙◌, refl}
use mathlib.Core.Bool.{true, false}
use Rattle.closings.specs.laws.Pairs.{pair_less}
use Rattle.routes.specs.Routes.{best_end}
use Rattle.routes.specs.laws.Offer.{end_both}
use Rattle.routes.proofs.best_end.Goals as goal

pub returns-in-None-None : goal.returns-in-None-None
unfolding best_end
returns-in-None-None c = rw (c.in-None-None.is-0, c.in-None-None.is-1) refl

pub returns-in-None-Some : goal.returns-in-None-Some
unfolding best_end
returns-in-None-Some c = rw (c.in-None-Some.is-0, c.in-None-Some.is-1) refl

pub returns-in-Some-None : goal.returns-in-Some-None
unfolding best_end
returns-in-Some-None c = rw (c.in-Some-None.is-0, c.in-Some-None.is-1) refl

pub returns-then-lt : goal.returns-then-lt
returns-then-lt c =
    let x = c.in-Some-Some.one in
    let y = c.in-Some-Some.two in
    end_both true c.in-Some-Some.is-0 c.in-Some-Some.is-1 (sym c.if-lt.true ∙ c.lt.ensures ∙ pair_less y.turns y.white x.turns x.white)

pub returns-else-lt : goal.returns-else-lt
returns-else-lt c =
    let x = c.in-Some-Some.one in
    let y = c.in-Some-Some.two in
    end_both false c.in-Some-Some.is-0 c.in-Some-Some.is-1 (sym c.if-lt.false ∙ c.lt.ensures ∙ pair_less y.turns y.white x.turns x.white)
