-- `versions_steps::allocation::allocate` meets its contract: the first no, in order, and else the block found. Assumes nothing.
use Rattle.std.proofs.Common.{◌≡◌, ℕ, ap, sym, ◌∙◌, rules}
use Rattle.std.specs.Prelude.{Option}
use Rattle.std.specs.Option.{ok_or}
use Rattle.lockpage.specs.Geometry.{present}
use Rattle.lockpage.proofs.GeometryLaw.{present_proper as σ}
use Rattle.machine.specs.declared.Refusal.TheVariants.{TooFewFree}
use Rattle.machine.specs.Refusal.{number_of, answered_or_0}
use Rattle.machine.proofs.RefusalLaw.{some_number}
use Rattle.versions_state.proofs.ValidLaw.{facts}
use Rattle.versions_steps.proofs.AskedLaw.{box_refused, box_valid, answered}
use Rattle.versions_steps.proofs.allocation.allocate.Goals as goal

pub returns-in_err-check : goal.returns-in_err-check
returns-in_err-check c =
    let passed : number_of c.from_residual.result ≡ number_of c.check.result = search rules in
    let none : answered_or_0 c.from_residual.result ≡ 0 = search rules in
    box_refused σ _ _ _ _ _ c.check.ensures _ _ (λ e. some_number _ (sym (ap number_of c.in_err-check.was) ∙ e)) passed none

pub reserve-reserve-requires : goal.reserve-reserve-requires
reserve-reserve-requires c = (facts present _ c.requires).size

pub taken-taken-requires : goal.taken-taken-requires
taken-taken-requires c = (facts present _ c.requires).size

pub two-found-requires : goal.two-found-requires
two-found-requires c = box_valid σ _ _ _ c.check.ensures (ap number_of c.in_ok-check.was)

pub returns : goal.returns
returns c =
    answered σ _ _ _ _ _ c.check.ensures (ap number_of c.in_ok-check.was) _ c.reserve-reserve.ensures _ c.taken-taken.ensures _
    c.two-found.ensures _ (c.ok_or.ensures.value ∙ ap (λ (o : Option ℕ). ok_or o TooFewFree) c.ok.ensures.value)
