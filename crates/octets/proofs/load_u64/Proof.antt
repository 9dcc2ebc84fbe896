-- `octets::load_u64` meets its contract: two numbers of four bytes side by side are one of eight. Assumes nothing.
use borrow.Author.Rules.{rules}
use Rattle.octets.proofs.NumberLaw.{number_of_eight}
use Rattle.octets.proofs.load_u64.Statement.{statement}
use Rattle.octets.proofs.load_u64.Tie as tie

returns : tie.Need-returns
returns c =
    number_of_eight _ _ _ _ c.before.before.before.requires c.before.load_u32-low.ensures c.load_u32-high.ensures

pub load_u64_spec : {M : Type 1} → statement M
load_u64_spec =
    tie.close
    (tie.spec (λ c κs. search rules) (λ c. search rules) (λ c κs. search rules) (λ c. search rules) (λ c. search rules)
    (λ c. search rules) (λ c. search rules) returns)
