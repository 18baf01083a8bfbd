-- `bind` meets its contract: the best of the routes at the end is the best choice, or there is none, and the chapters along it are made.
use mathlib.Core.Path.{refl, sym, ◌∙◌, ap}
use Rattle.book.specs.laws.Ending.{folio_after, end_some}
use Rattle.book.specs.laws.Bind.{bind_read, bind_none, bind_found, bind_countable, bind_best}
use Rattle.book.proofs.bind.Goals as goal

pub all_weighed-weighed-requires : goal.all_weighed-weighed-requires
all_weighed-weighed-requires c = bind_read c.requires

pub all_routes-ends-requires : goal.all_routes-ends-requires
all_routes-ends-requires c = (c.requires.room, refl)

pub returns-in_default : goal.returns-in_default
returns-in_default c =
    bind_none c.requires _ c.all_weighed-weighed.ensures c.all_routes-ends.ensures 0
    (ap folio_after (sym c.in_default.is ∙ c.best_end.ensures)) refl _ c.refused.ensures

pub along-sums-requires : goal.along-sums-requires
along-sums-requires c =
    bind_found c.requires _ c.all_weighed-weighed.ensures c.all_routes-ends.ensures _
    (ap folio_after (sym c.in-Some.is ∙ c.best_end.ensures)) (end_some _ _ _ (sym c.best_end.ensures ∙ c.in-Some.is))

pub counted-requires : goal.counted-requires
counted-requires c =
    bind_countable c.requires _ c.all_weighed-weighed.ensures c.all_routes-ends.ensures _
    (ap folio_after (sym c.in-Some.is ∙ c.best_end.ensures)) c.along-sums.ensures

pub returns : goal.returns
returns c =
    bind_best c.requires _ c.all_weighed-weighed.ensures c.all_routes-ends.ensures _
    (ap folio_after (sym c.in-Some.is ∙ c.best_end.ensures)) c.along-sums.ensures _ c.counted.ensures
