-- `octets::load_u8` meets its contract. Assumes nothing.
use borrow.Author.Rules.{rules}
use Rattle.octets.proofs.NumberLaw.{number_of_one}
use Rattle.octets.proofs.load_u8.Statement.{statement}
use Rattle.octets.proofs.load_u8.Tie as tie

pub load_u8_spec : {M : Type 1} → statement M
load_u8_spec = tie.close (tie.spec (λ c. search rules) (λ c. number_of_one _ _ c.before.requires))
