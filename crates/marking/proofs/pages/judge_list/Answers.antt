-- `judge_list` meets its contract: the first fault refuses the list, else 18 does or its pages are counted.
use Rattle.std.proofs.Common.{◌∙◌}
use Rattle.std.proofs.lemmas.Result.{err_from_is_err_and}
use Rattle.marking.specs.laws.Listed.{list_broken, list_limits, list_kept}
use Rattle.marking.proofs.pages.judge_list.Goals as goal

pub returns-in_err-at : goal.returns-in_err-at
returns-in_err-at c =
    let p = err_from_is_err_and c.from_residual.result c.from_residual.ensures.1 in
    rw (p.1, p.2) (list_broken c.requires _ c.in_err-at.ensures)

pub finish-requires : goal.finish-requires
finish-requires c = list_limits c.requires _ c.in_ok-at.ensures

pub returns : goal.returns
returns c = c.finish.ensures ∙ list_kept c.requires _ c.in_ok-at.ensures
