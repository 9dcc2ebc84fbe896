-- `lockpage::updates::expiry_at` meets its contract, with a lock of 0 and with another. Assumes nothing.
use borrow.Author.Rules.{rules}
use mathlib.Core.Path.{sym}
use native.Mathlib.Omega.{arith}
use Rattle.lockpage.proofs.UpdateLaw.{expiry_none, expiry_some}
use Rattle.lockpage.proofs.updates.expiry_at.Statement.{statement}
use Rattle.lockpage.proofs.updates.expiry_at.Tie as tie

pub expiry_at_spec : {M : Type 1} → statement M
expiry_at_spec =
    tie.close
    (tie.spec (λ c. sym (expiry_none _ _ (omega arith))) (λ c. search rules) (λ c. search rules)
    (λ c. sym (expiry_some _ _ (omega arith))))
