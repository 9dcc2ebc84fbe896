-- `versions_steps::version::store` meets its contract: the version is written, and its record entered, or stored in the log block that it
-- fills. Assumes nothing.
use Rattle.std.proofs.Common.{arith, ltb-true, ltb-false}
use Rattle.lockpage.specs.Geometry.{present}
use Rattle.lockpage.proofs.GeometryLaw.{present_proper as σ}
use Rattle.versions_state.proofs.ValidLaw.{facts}
use Rattle.versions_steps.proofs.StoreLaw.{is_part, version_ready, entered_stored, log_ready, logged_stored}
use Rattle.versions_steps.proofs.version.store.Goals as goal

pub lock-lock-requires : goal.lock-lock-requires
lock-lock-requires c = (facts present _ c.requires.put_ready.valid).size

pub newest-replaced-requires : goal.newest-replaced-requires
newest-replaced-requires c = ((facts present _ c.requires.put_ready.valid).size, is_part σ _ _ _ _ _ _ c.requires)

pub write-requires : goal.write-requires
write-requires c = version_ready σ _ _ _ _ _ _ c.requires _ c.lock-lock.ensures _ c.newest-replaced.ensures

pub record_count-has_room-requires : goal.record_count-has_room-requires
record_count-has_room-requires c = (facts present _ c.requires.put_ready.valid).size

pub enter-requires : goal.enter-requires
enter-requires c =
    record {
      valid = c.requires.put_ready.valid;
      is_part = is_part σ _ _ _ _ _ _ c.requires;
      more = omega (arith, ltb-true, c.record_count-has_room.ensures);
    }

pub returns-then-has_room : goal.returns-then-has_room
returns-then-has_room c =
    entered_stored σ _ _ _ _ _ _ c.requires _ c.lock-lock.ensures _ c.newest-replaced.ensures _ c.write.ensures
    (omega (arith, ltb-true, c.record_count-has_room.ensures)) _ c.enter.ensures

pub store_full-requires : goal.store_full-requires
store_full-requires c =
    log_ready σ _ _ _ _ _ _ c.requires _ c.lock-lock.ensures _ c.newest-replaced.ensures _ c.write.ensures
    (omega (arith, ltb-false, c.record_count-has_room.ensures))

pub returns : goal.returns
returns c =
    logged_stored σ _ _ _ _ _ _ c.requires _ c.lock-lock.ensures _ c.newest-replaced.ensures _ c.write.ensures
    (omega (arith, ltb-false, c.record_count-has_room.ensures)) _ _ c.store_full.ensures.0 c.store_full.ensures.1
