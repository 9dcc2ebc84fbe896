-- `versions_steps::log::store` meets its contract: the log block refused, and nothing altered, or stored. Assumes nothing.
use Rattle.std.proofs.Common.{◌≡◌, ap, sym, ◌∙◌, rules}
use Rattle.lockpage.specs.Geometry.{present}
use Rattle.lockpage.proofs.GeometryLaw.{present_proper as σ}
use Rattle.machine.specs.Refusal.{number_of}
use Rattle.machine.proofs.RefusalLaw.{some_number}
use Rattle.versions_state.specs.State.{versions_in}
use Rattle.versions_state.proofs.ValidLaw.{facts}
use Rattle.versions_steps.proofs.OrderedLaw.{order_ready, flush_refused, flush_stored}
use Rattle.versions_steps.proofs.log.store.Goals as goal

pub lock-lock-requires : goal.lock-lock-requires
lock-lock-requires c = (facts present _ c.requires.valid).size

pub reserve-reserve-requires : goal.reserve-reserve-requires
reserve-reserve-requires c = (facts present _ c.requires.valid).size

pub give-requires : goal.give-requires
give-requires c = order_ready σ _ (versions_in c.args.state.now) _ _ c.requires.asked

pub returns-in_err-give : goal.returns-in_err-give
returns-in_err-give c =
    let passed : number_of c.from_residual.result ≡ number_of c.give.result = search rules in
    flush_refused σ _ _ _ _ _ _ _ _ _ _ c.requires c.reserve-reserve.ensures c.lock-lock.ensures c.fill_log.ensures
    c.give.ensures (λ e. some_number _ (sym (ap number_of c.in_err-give.was) ∙ e)) _ passed

pub returns : goal.returns
returns c =
    flush_stored σ _ _ _ _ _ _ _ _ _ _ c.requires c.reserve-reserve.ensures c.lock-lock.ensures c.fill_log.ensures
    c.give.ensures (ap number_of c.in_ok-give.was) _ c.log.ensures
