-- `addressing::block_start` meets its contract. Assumes nothing.
use borrow.Author.Rules.{rules}
use Rattle.addressing.specs.Map.{block_start}
use Rattle.addressing.proofs.block_start.Statement.{statement}
use Rattle.addressing.proofs.block_start.Tie as tie

returns : tie.Need-returns
unfolding block_start
returns c = search rules

pub block_start_spec : {M : Type 1} → statement M
block_start_spec = tie.close (tie.spec (λ c. search rules) returns)
