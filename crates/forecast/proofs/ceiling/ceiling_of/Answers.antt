-- `ceiling_of` meets its contract: the ceiling is the product of the three streams' factors, and those are small.
use mathlib.Core.Path.{refl}
use Rattle.galley.specs.Model.{model_of}
use Rattle.forecast.specs.laws.Ceiling.{ceiling_is}
use Rattle.forecast.proofs.ceiling.ceiling_of.Goals as goal

pub returns : goal.returns
returns c =
    let a = c.args in
    let m = model_of a.s.now a.g in
    ceiling_is a.s.now a.g _ _ _ (c.factors_of-lines.ensures.0 m _ _ refl)
    (c.factors_of-figures.ensures.0 m _ _ refl) (c.factors_of-tables.ensures.0 m _ _ refl)
