-- `octets::store_u64` meets its contract: two numbers of four bytes side by side are one of eight. Assumes nothing.
use borrow.Author.Rules.{rules}
use Rattle.octets.proofs.NumberLaw.{stored_eight}
use Rattle.octets.proofs.store_u64.Statement.{statement}
use Rattle.octets.proofs.store_u64.Tie as tie

returns : tie.Need-returns
returns c =
    let second = c.before.before in
    let first = second.before.before.before.before in
    stored_eight _ _ _ _ _ first.before.before.before.requires first.store_u32.ensures second.store_u32-2.ensures

pub store_u64_spec : {M : Type 1} → statement M
store_u64_spec =
    tie.close
    (tie.spec (λ c. search rules) (λ c κs. search rules) (λ c. search rules) (λ c. search rules) (λ c κs. search rules) (λ c. search rules) returns)
