-- What each way out of the forecast tells.
use Rattle.std.specs.Prelude.{ℕ, ◌≡◌, refl, List, Ok, Err}
use Rattle.model.specs.declared.answer.Refusal.{Refusal}
use Rattle.model.specs.Weighed.{ceiling}
use Rattle.galley.specs.declared.Galley.{Galley}
use Rattle.galley.specs.Whole.{galley_of}
use Rattle.galley.specs.Model.{model_of}
use Rattle.needs.specs.Needs.{work_needed, list_needed}
use Rattle.forecast.specs.Forecast.{forecast_read, forecast_of}

-- A galley that reads.
pub forecast_reads : (bytes : List ℕ) (g : Galley) → galley_of bytes ≡ Ok g
    → (work list top : ℕ) → work ≡ work_needed g → list ≡ list_needed g → top ≡ ceiling (model_of bytes g)
    → Ok (record { work = work; list = list; ceiling = top }) ≡ forecast_of bytes
unfolding forecast_of forecast_read
forecast_reads bytes g e work list top w l c = rw (e, w, l, c) refl

-- A galley that is refused.
pub forecast_refused : (bytes : List ℕ) (r : Refusal) → galley_of bytes ≡ Err r → Err r ≡ forecast_of bytes
unfolding forecast_of forecast_read
forecast_refused bytes r e = rw e refl
