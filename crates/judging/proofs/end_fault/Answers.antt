-- `end_fault` meets its contract: its two tests are those of rule 16, for the floor, and of rule 17.
use mathlib.Core.Bool.{◌||◌}
use mathlib.Core.Path.{◌∙◌, ap}
use Rattle.judging.proofs.end_fault.Goals as goal

pub returns : goal.returns
returns c =
    let a = c.args in
    c.first_fault.ensures
    ∙ rw (
      c.floor_of.ensures a.s.now,
      c.are_cited-cited.ensures a.page.0 a.last (ap (λ e. e || a.last) c.ends_spread.ensures),
    )
