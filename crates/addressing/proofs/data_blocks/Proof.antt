-- `addressing::data_blocks` meets its contract. Assumes nothing.
use borrow.Author.Rules.{rules}
use Rattle.addressing.specs.Map.{data_blocks}
use Rattle.addressing.proofs.data_blocks.Statement.{statement}
use Rattle.addressing.proofs.data_blocks.Tie as tie

returns : tie.Need-returns
unfolding data_blocks
returns c = search rules

pub data_blocks_spec : {M : Type 1} → statement M
data_blocks_spec = tie.close (tie.spec (λ c. search rules) returns)
