-- `forecast_of` meets its contract: a galley that reads is told of, and one that is refused is refused alike.
use Rattle.std.proofs.Common.{sym}
use Rattle.std.proofs.lemmas.Result.{err_from_is_err_and}
use Rattle.forecast.specs.laws.Forecast.{forecast_refused}
use Rattle.forecast.proofs.forecast_of.Goals as goal

pub returns-in_err-g : goal.returns-in_err-g
returns-in_err-g c =
    let p = err_from_is_err_and c.from_residual.result c.from_residual.ensures.1 in
    rw (p.1, p.2) (forecast_refused _ _ (sym c.in_err-g.ensures))
