-- `versions_updates::start` meets its contract, store by store. Assumes nothing.
use borrow.Author.Rules.{rules}
use Rattle.lockpage.specs.Geometry.{present}
use Rattle.versions_updates.proofs.CodeLaw.{start_stored}
use Rattle.versions_updates.proofs.start.Statement.{statement}
use Rattle.versions_updates.proofs.start.Tie as tie

returns : tie.Need-returns
returns c =
    start_stored present _ _ _ _ _ _ _ c.requires c.store_u32.ensures c.store_u32-2.ensures c.store_u32-3.ensures
    c.store_u32-4.ensures c.fill.ensures

pub start_spec : {M : Type 1} → statement M
start_spec =
    tie.close
    (tie.spec (λ c κs. search rules) (λ c κs. search rules) (λ c κs. search rules) (λ c κs. search rules) (λ c. search rules)
    (λ c κs. search rules) (λ c. search rules) returns)
