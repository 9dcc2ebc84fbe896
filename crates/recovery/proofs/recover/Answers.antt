-- `recovery::recover` meets its contract: a refusal, or a cleared result and the walk. Assumes nothing.
use Rattle.std.proofs.Common.{◌≡◌, ap, sym, ◌∙◌, arith, rules}
use Rattle.lockpage.specs.Geometry.{present}
use Rattle.machine.specs.Refusal.{number_of}
use Rattle.machine.proofs.RefusalLaw.{some_number}
use Rattle.recovery.proofs.RefusalLaw.{box_valid, result_length, result_cleared, refused, recovers}
use Rattle.recovery.proofs.recover.Goals as goal

pub returns-in_err-check : goal.returns-in_err-check
returns-in_err-check c =
    let passed : number_of c.from_residual.result ≡ number_of c.check.result = search rules in
    refused present _ _ _ _ (passed ∙ c.check.ensures) _ _ (λ e. some_number _ (sym (ap number_of c.in_err-check.was) ∙ sym passed ∙ e))

pub fill-requires : goal.fill-requires
fill-requires c = omega (arith, result_length present _ _ _ _ c.check.ensures (ap number_of c.in_ok-check.was))

pub walk-requires : goal.walk-requires
walk-requires c =
    record {
      box = box_valid present _ _ _ _ c.check.ensures (ap number_of c.in_ok-check.was);
      empty = result_cleared _ _ (result_length present _ _ _ _ c.check.ensures (ap number_of c.in_ok-check.was)) c.fill.ensures;
    }

pub returns : goal.returns
returns c = recovers present _ _ _ _ c.check.ensures _ _ (ap number_of c.in_ok-check.was) _ c.walk.ensures
