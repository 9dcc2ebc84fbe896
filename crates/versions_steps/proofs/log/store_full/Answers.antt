-- `versions_steps::log::store_full` meets its contract: the log block given with what the state and the search say. Assumes nothing.
use Rattle.lockpage.specs.Geometry.{present}
use Rattle.lockpage.proofs.GeometryLaw.{present_proper as σ}
use Rattle.versions_state.proofs.ValidLaw.{facts}
use Rattle.versions_steps.proofs.OrderedLaw.{full_stored}
use Rattle.versions_steps.proofs.log.store_full.Goals as goal

pub reserve-reserve-requires : goal.reserve-reserve-requires
reserve-reserve-requires c = (facts present _ c.requires.valid).size

pub lock-lock-requires : goal.lock-lock-requires
lock-lock-requires c = (facts present _ c.requires.valid).size

pub returns : goal.returns
returns c =
    full_stored σ _ _ _ _ _ _ _ _ _ _ _ _ _ c.reserve-reserve.ensures c.lock-lock.ensures c.next-pointer.ensures
    c.fill_full_log.ensures c.give.ensures c.enter_logged.ensures
