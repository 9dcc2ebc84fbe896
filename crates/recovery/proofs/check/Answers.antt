-- `recovery::check` meets its contract: the first no, in order. Assumes nothing.
use Rattle.std.proofs.Common.{◌≡◌, ap, sym, ◌∙◌, arith, rules}
use Rattle.lockpage.specs.Geometry.{present}
use Rattle.machine.specs.Refusal.{number_of}
use Rattle.machine.proofs.RefusalLaw.{some_number}
use Rattle.recovery.proofs.RefusalLaw.{box_refused, length_wrong, accepted}
use Rattle.recovery.proofs.check.Goals as goal

pub returns-in_err-check : goal.returns-in_err-check
returns-in_err-check c =
    let passed : number_of c.from_residual.result ≡ number_of c.check.result = search rules in
    passed ∙ box_refused present _ _ _ _ c.check.ensures (λ e. some_number _ (sym (ap number_of c.in_err-check.was) ∙ e))

pub returns-then-res-ne-RESULT_SIZE : goal.returns-then-res-ne-RESULT_SIZE
returns-then-res-ne-RESULT_SIZE c =
    length_wrong present _ _ _ _ c.check.ensures (ap number_of c.in_ok-check.was) (λ z. omega arith)

pub returns : goal.returns
returns c = accepted present _ _ _ _ c.check.ensures (ap number_of c.in_ok-check.was) (omega arith)
