-- `recovery::records::says_kept` meets its contract: written late, frozen, or with an expiry. Assumes nothing.
use borrow.Author.Rules.{rules}
use native.Mathlib.Omega.{arith}
use Rattle.recovery.proofs.RecordsLaw.{says_late, says_frozen, says_counting}
use Rattle.recovery.proofs.records.says_kept.Statement.{statement}
use Rattle.recovery.proofs.records.says_kept.Tie as tie

returns-3 : tie.Need-returns
returns-3 c = says_counting _ _ _ (omega arith) (cc)

pub says_kept_spec : {M : Type 1} → statement M
says_kept_spec =
    tie.close
    (tie.spec (λ c. search rules) (λ c. search rules) (λ c. search rules) (λ c. says_late _ _ _ (omega arith))
    (λ c κs. search rules) (λ c. says_frozen _ _ _ (omega arith) (cc)) returns-3)
