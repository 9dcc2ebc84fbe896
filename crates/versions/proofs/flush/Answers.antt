-- `versions::flush` meets its contract: nothing without records; else the first no, in order, or the log block stored. Assumes nothing.
use Rattle.std.proofs.Common.{◌≡◌, refl, ap, sym, ◌∙◌, arith, rules}
use Rattle.octets.specs.Part.{Below}
use Rattle.lockpage.specs.Geometry.{present}
use Rattle.lockpage.proofs.GeometryLaw.{present_proper as σ}
use Rattle.machine.specs.Refusal.{number_of}
use Rattle.machine.proofs.RefusalLaw.{some_number}
use Rattle.versions_state.proofs.ValidLaw.{facts}
use Rattle.versions.proofs.CallLaw as law
use Rattle.versions.proofs.flush.Goals as goal

pub returns-then-not-valid : goal.returns-then-not-valid
returns-then-not-valid c = law.flush_no_state σ _ _ _ _ _ c.valid.ensures (search rules)

pub record_count-is_empty-requires : goal.record_count-is_empty-requires
record_count-is_empty-requires c = (facts present _ (sym c.valid.ensures ∙ (search rules))).size

pub returns-then-is_empty : goal.returns-then-is_empty
unfolding Below
returns-then-is_empty c =
    law.flush_nothing σ _ _ _ _ _ c.valid.ensures (search rules) (λ i. omega (arith, c.slice_known-1.given i))
    (omega (arith, c.record_count-is_empty.ensures))

pub allocate-requires : goal.allocate-requires
allocate-requires c = sym c.valid.ensures ∙ (search rules)

pub returns-in_err-pointer : goal.returns-in_err-pointer
returns-in_err-pointer c =
    let passed : number_of c.from_residual.result ≡ number_of c.allocate.result = search rules in
    law.flush_no_box σ _ _ _ _ _ c.valid.ensures (search rules)
    (λ z. omega (arith, c.record_count-is_empty.ensures)) _ _ c.allocate.ensures
    (λ e. some_number _ (sym (ap number_of c.in_err-pointer.was) ∙ e)) _ passed

pub store-requires : goal.store-requires
store-requires c =
    record {
      valid = sym c.valid.ensures ∙ (search rules);
      records = λ z. omega (arith, c.record_count-is_empty.ensures);
      asked = sym c.in_ok-pointer.ensures.number_is;
      pointer_is = c.in_ok-pointer.ensures.block_is refl;
    }

pub returns : goal.returns
returns c = c.store.ensures ∙ sym (law.flush_handed σ _ _ _ _ _ c.valid.ensures (search rules))
