-- `versions_updates::set_newest` meets its contract, by that of the store. Assumes nothing.
use borrow.Author.Rules.{rules}
use Rattle.versions_updates.proofs.CodeLaw.{stored_at}
use Rattle.versions_updates.proofs.set_newest.Statement.{statement}
use Rattle.versions_updates.proofs.set_newest.Tie as tie

returns : tie.Need-returns
returns c =
    stored_at _ _ _ _ _ _ c.newest_start.ensures c.store_u32.ensures

pub set_newest_spec : {M : Type 1} → statement M
set_newest_spec = tie.close (tie.spec (λ c κs. search rules) (λ c κs. search rules) (λ c. search rules) returns)
