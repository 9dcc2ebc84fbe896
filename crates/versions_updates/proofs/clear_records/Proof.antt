-- `versions_updates::clear_records` meets its contract, store by store. Assumes nothing.
use borrow.Author.Rules.{rules}
use Rattle.lockpage.specs.Geometry.{present}
use Rattle.versions_updates.proofs.CodeLaw.{cleared_stored}
use Rattle.versions_updates.proofs.clear_records.Statement.{statement}
use Rattle.versions_updates.proofs.clear_records.Tie as tie

returns : tie.Need-returns
returns c ν es few =
    cleared_stored present ν _ _ _ _ _ _ c.store_u32.ensures c.store_u32-2.ensures c.store_u32-3.ensures
    c.fill.ensures es few

pub clear_records_spec : {M : Type 1} → statement M
clear_records_spec =
    tie.close
    (tie.spec (λ c κs. search rules) (λ c κs. search rules) (λ c κs. search rules) (λ c κs. search rules) (λ c. search rules) returns)
