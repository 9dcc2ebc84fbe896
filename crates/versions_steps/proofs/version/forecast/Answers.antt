-- `versions_steps::version::forecast` meets its contract: the forecast of what the state and the box say is the put's number. Assumes
-- nothing.
use Rattle.std.proofs.Common.{ℕ, refl, ap, arith, eqb}
use Rattle.lockpage.specs.Geometry.{present}
use Rattle.lockpage.proofs.GeometryLaw.{present_proper as σ}
use Rattle.octets.specs.Part.{Below}
use Rattle.versions_state.specs.Layout.{most_records}
use Rattle.versions_state.proofs.ValidLaw.{facts}
use Rattle.versions_steps.proofs.ForecastLaw.{is_part, is_ready, forecast_is}
use Rattle.versions_steps.proofs.version.forecast.Goals as goal

pub lock-requires : goal.lock-requires
lock-requires c = (facts present _ c.requires.valid).size

pub newest-requires : goal.newest-requires
newest-requires c = ((facts present _ c.requires.valid).size, is_part σ _ _ _ _ _ c.requires _ c.lock.ensures _ refl)

pub record_count-requires : goal.record_count-requires
record_count-requires c = (facts present _ c.requires.valid).size

pub reserve-requires : goal.reserve-requires
reserve-requires c = (facts present _ c.requires.valid).size

pub forecast-requires : goal.forecast-requires
forecast-requires c = is_ready σ _ _ _ _ _ c.requires _ c.lock.ensures _ c.reserve.ensures

pub returns : goal.returns
unfolding Below
returns c =
    forecast_is σ _ _ _ _ _ c.requires _ c.lock.ensures _ c.reserve.ensures
    (record { memory = λ i. omega (arith, c.type_inv.memory i); disk = λ i. omega (arith, c.type_inv.disk i) })
    _ _ c.newest.ensures _ (ap (λ (n : ℕ). eqb n (most_records present)) c.record_count.ensures) _ c.forecast.ensures
