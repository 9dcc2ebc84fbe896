-- `recovery::records::take_record` meets its contract: the three ways out. Assumes nothing.
use borrow.Author.Rules.{rules}
use native.Mathlib.Omega.{arith}
use Rattle.lockpage.specs.Geometry.{present}
use Rattle.recovery.proofs.RecordsLaw.{take_no_part, take_not_kept, take_kept}
use Rattle.recovery.proofs.records.take_record.Statement.{statement}
use Rattle.recovery.proofs.records.take_record.Tie as tie

pub take_record_spec : {M : Type 1} → statement M
take_record_spec =
    tie.close
    (tie.spec (λ c. search rules) (λ c κs. search rules)
    (λ c. take_no_part present _ _ _ _ _ _ c.load_u32-part.ensures _ (omega arith))
    (λ c. search rules) (λ c κs. search rules) (λ c κs. search rules) (λ c. search rules) (λ c. search rules) (λ c κs. search rules) (λ c. search rules)
    (λ c.
    take_kept present _ _ _ _ _ _ c.load_u32-part.ensures (omega arith) _ c.load_u32-block.ensures _ c.is_kept.ensures _ _ (search rules)
    c.store_u32.ensures)
    (λ c.
    take_not_kept present _ _ _ _ _ _ c.load_u32-part.ensures (omega arith) _ c.load_u32-block.ensures _ c.is_kept.ensures _ (search rules)))
