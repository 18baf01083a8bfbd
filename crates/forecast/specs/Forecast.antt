-- What is told of a galley before it is made (document 02, S-5).
use Rattle.std.specs.Prelude.{ℕ, List, Result, Err, Ok}
use Rattle.model.specs.declared.answer.Refusal.{Refusal}
use Rattle.model.specs.Weighed.{ceiling}
use Rattle.galley.specs.Whole.{galley_of, Reading}
use Rattle.galley.specs.Model.{model_of}
use Rattle.needs.specs.Needs.{work_needed, list_needed}
use Rattle.forecast.specs.declared.Forecast.{Forecast}

-- Of a galley that reads: the words of work and of list for want of which making answers 9 and 10, and the ceiling on the pages
-- weighed. A galley that is refused is refused alike (document 02, S-5).
unfoldable pub forecast_read : List ℕ → Reading → Result Forecast Refusal
forecast_read bytes (Ok g) = Ok (record { work = work_needed g; list = list_needed g; ceiling = ceiling (model_of bytes g) })
forecast_read bytes (Err r) = Err r

-- The forecast for any bytes (document 02, S-5).
unfoldable pub forecast_of : List ℕ → Result Forecast Refusal
forecast_of bytes = forecast_read bytes (galley_of bytes)
