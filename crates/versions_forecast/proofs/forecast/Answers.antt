-- `versions_forecast::forecast` meets its contract: the first command that will be refused, in their order. Assumes nothing.
use Rattle.std.proofs.Common.{◌≡◌, ap, sym, ◌∙◌, rules}
use Rattle.lockpage.specs.Geometry.{present}
use Rattle.lockpage.proofs.GeometryLaw.{present_proper as σ}
use Rattle.machine.specs.Refusal.{number_of}
use Rattle.machine.proofs.RefusalLaw.{some_number}
use Rattle.machine.specs.Command.{box_of}
use Rattle.versions_machine.proofs.AllocationLaw.{available_other}
use Rattle.versions_forecast.proofs.WriteLaw.{write_left}
use Rattle.versions_forecast.proofs.RangeLaw.{has_count}
use Rattle.versions_forecast.proofs.PutLaw.{first_refused, second_refused, log_not_due, log_due, unfrozen_within}
use Rattle.versions_forecast.proofs.forecast.Goals as goal

pub check_write-requires : goal.check_write-requires
check_write-requires c = has_count σ _ _ c.requires.valid.memory c.requires.range

pub returns-in_err-check_write : goal.returns-in_err-check_write
returns-in_err-check_write c =
    let x = c.args in
    let s = box_of x.memory.now x.disk.now in
    let passed : number_of c.from_residual.result ≡ number_of c.check_write.result = search rules in
    passed
    ∙ first_refused present _ _ _ x.block x.time x.lock x.content.now x.replaced x.due x.reserve _
    (c.check_write.ensures ∙ write_left present s x.block x.time x.lock x.reserve _ x.content.now c.requires)
    (λ e. some_number _ (sym (ap number_of c.in_err-check_write.was) ∙ e))

pub returns-in_err-check_unfreeze : goal.returns-in_err-check_unfreeze
returns-in_err-check_unfreeze c =
    let x = c.args in
    let s = box_of x.memory.now x.disk.now in
    let passed : number_of c.from_residual-in_err-check_unfreeze.result ≡ number_of c.check_unfreeze.result = search rules in
    passed
    ∙ second_refused present _ _ _ x.block x.time x.lock x.content.now x.replaced x.due x.reserve _
    (c.check_write.ensures ∙ write_left present s x.block x.time x.lock x.reserve _ x.content.now c.requires)
    (ap number_of c.in_ok-check_write.was) _ c.check_unfreeze.ensures
    (λ e. some_number _ (sym (ap number_of c.in_err-check_unfreeze.was) ∙ e))

pub returns-then-not-due : goal.returns-then-not-due
returns-then-not-due c =
    let x = c.args in
    let s = box_of x.memory.now x.disk.now in
    log_not_due present _ _ _ x.block x.time x.lock x.content.now x.replaced x.due x.reserve _
    (c.check_write.ensures ∙ write_left present s x.block x.time x.lock x.reserve _ x.content.now c.requires)
    (ap number_of c.in_ok-check_write.was) _ c.check_unfreeze.ensures (ap number_of c.in_ok-check_unfreeze.was) c.if-not-due.true

pub check_log-requires : goal.check_log-requires
check_log-requires c =
    let x = c.args in
    let s = box_of x.memory.now x.disk.now in
    let other = available_other present s x.time x.reserve x.block c.requires.available in
    record {
      valid = c.requires.valid;
      early = c.requires.early;
      other = other;
      within =
          unfrozen_within present _ _ _ x.block x.time x.lock x.content.now x.replaced x.due x.reserve _
          (c.check_write.ensures ∙ write_left present s x.block x.time x.lock x.reserve _ x.content.now c.requires)
          (ap number_of c.in_ok-check_write.was) _ c.check_unfreeze.ensures (ap number_of c.in_ok-check_unfreeze.was) other;
    }

pub returns : goal.returns
returns c =
    let x = c.args in
    let s = box_of x.memory.now x.disk.now in
    log_due present _ _ _ x.block x.time x.lock x.content.now x.replaced x.due x.reserve _
    (c.check_write.ensures ∙ write_left present s x.block x.time x.lock x.reserve _ x.content.now c.requires)
    (ap number_of c.in_ok-check_write.was) _ c.check_unfreeze.ensures (ap number_of c.in_ok-check_unfreeze.was) c.if-not-due.false _
    c.check_log.ensures
