-- `versions::put` meets its contract: the first no, in order, then the commands' first no, and else the version stored. Assumes nothing.
use Rattle.std.proofs.Common.{◌≡◌, refl, ap, sym, ◌∙◌, arith, rules}
use Rattle.std.specs.Prelude.{[]}
use Rattle.lockpage.proofs.GeometryLaw.{present_proper as σ}
use Rattle.machine.specs.Refusal.{number_of, answered_or_0}
use Rattle.machine.proofs.RefusalLaw.{some_number}
use Rattle.versions.proofs.CallLaw as law
use Rattle.versions.proofs.put.Goals as goal

pub allocate-requires : goal.allocate-requires
allocate-requires c = sym c.valid.ensures ∙ (search rules)

pub forecast-requires : goal.forecast-requires
forecast-requires c =
    law.put_is_ready σ _ _ _ _ _ [] (omega arith) _ c.valid.ensures (search rules) _ _ c.in_ok-block.ensures refl

pub store-requires : goal.store-requires
store-requires c =
    record {
      put_ready =
          law.put_is_ready σ _ _ _ _ _ [] (omega arith) _ c.valid.ensures (search rules) _ _ c.in_ok-block.ensures refl;
      accepted = sym c.forecast.ensures ∙ (search rules);
    }

pub returns-then-part-gt-LAST_PART : goal.returns-then-part-gt-LAST_PART
returns-then-part-gt-LAST_PART c = law.other_part σ _ _ _ _ _ _ _ _ (omega arith) refl refl

pub returns-then-not-valid : goal.returns-then-not-valid
returns-then-not-valid c = law.no_state σ _ _ _ _ _ _ (omega arith) _ c.valid.ensures _ _ (search rules) refl refl

pub returns-in_err-block : goal.returns-in_err-block
returns-in_err-block c =
    let passed : number_of c.from_residual.result ≡ number_of c.allocate.result = search rules in
    let none : answered_or_0 c.from_residual.result ≡ 0 = search rules in
    law.no_box σ _ _ _ _ _ _ (omega arith) _ c.valid.ensures (search rules) _ _ c.allocate.ensures
    (λ e. some_number _ (sym (ap number_of c.in_err-block.was) ∙ e)) _ _ passed none

pub returns-in_err-forecast : goal.returns-in_err-forecast
returns-in_err-forecast c =
    let passed : number_of c.from_residual-in_err-forecast.result ≡ number_of c.forecast.result = search rules in
    let none : answered_or_0 c.from_residual-in_err-forecast.result ≡ 0 = search rules in
    law.no_command σ _ _ _ _ _ _ (omega arith) _ c.valid.ensures (search rules) _ c.forecast.ensures
    (λ e. some_number _ (sym (ap number_of c.in_err-forecast.was) ∙ e)) _ _ passed none

pub returns : goal.returns
returns c =
    law.put_stored σ _ _ _ _ _ _ (omega arith) _ c.valid.ensures (search rules) _ c.forecast.ensures (search rules) _
    (c.in_ok-block.ensures.block_is refl) _ _ c.store.ensures
