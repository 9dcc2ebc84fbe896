-- `recovery::records::take_records` meets its contract. Assumes nothing.
use Rattle.std.proofs.Common.{◌∙◌, arith, rules}
use Rattle.lockpage.specs.Geometry.{present}
use Rattle.recovery.proofs.RecordsLaw.{taken_start, taken_next, taken_all}
use Rattle.recovery.proofs.records.take_records.Goals as goal

pub loop-i-init : goal.loop-i-init
loop-i-init c = taken_start present _ _ _ _ _

pub take_record-requires : goal.take_record-requires
take_record-requires c =
    let ready = c.requires in (
      record { kept = ready.kept; content_size = ready.content_size; result_size_is = c.loop-i.invariant.size ∙ ready.result_size_is },
      omega arith,
    )

pub loop-i-preserved : goal.loop-i-preserved
loop-i-preserved c = taken_next present _ _ _ _ _ _ _ _ c.loop-i.invariant (omega arith) (search rules) c.take_record.ensures

pub returns : goal.returns
returns c = taken_all present _ _ _ _ _ _ _ c.loop-i.invariant (omega arith)
