-- `forecast_read` meets its contract: what making needs, and the ceiling.
use native.Mathlib.Omega.{arith}
use Rattle.galley.proofs.laws.Sound.{sound}
use Rattle.needs.specs.laws.Needs.{read_few, work_small, list_small}
use Rattle.forecast.specs.laws.Forecast.{forecast_reads}
use Rattle.forecast.proofs.forecast_read.Goals as goal

pub work_needed-requires : goal.work_needed-requires
work_needed-requires c = read_few _ _ c.requires

pub list_needed-requires : goal.list_needed-requires
list_needed-requires c = read_few _ _ c.requires

pub ceiling_of-requires : goal.ceiling_of-requires
ceiling_of-requires c = sound _ _ c.requires

pub overflow_cast-result : goal.overflow_cast-result
overflow_cast-result c = omega (arith, c.work_needed.ensures, work_small c.args.g (read_few _ _ c.requires))

pub overflow_cast-result-2 : goal.overflow_cast-result-2
overflow_cast-result-2 c = omega (arith, c.list_needed.ensures, list_small c.args.g (read_few _ _ c.requires))

pub returns : goal.returns
returns c =
    forecast_reads c.args.s.now c.args.g c.requires _ _ _ c.work_needed.ensures c.list_needed.ensures
    c.ceiling_of.ensures
