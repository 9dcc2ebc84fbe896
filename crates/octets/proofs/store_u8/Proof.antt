-- `octets::store_u8` meets its contract. Assumes nothing.
use borrow.Author.Rules.{rules}
use native.Mathlib.Omega.{arith}
use Rattle.octets.proofs.NumberLaw.{stored_one}
use Rattle.octets.proofs.store_u8.Statement.{statement}
use Rattle.octets.proofs.store_u8.Tie as tie

pub store_u8_spec : {M : Type 1} → statement M
store_u8_spec = tie.close (tie.spec (λ c. search rules) (λ c. search rules) (λ c. stored_one _ _ _ c.requires (omega (arith, c.ranges.n))))
