-- `addressing::group_start` meets its contract. Assumes nothing.
use borrow.Author.Rules.{rules}
use Rattle.addressing.specs.Map.{group_start}
use Rattle.addressing.proofs.group_start.Statement.{statement}
use Rattle.addressing.proofs.group_start.Tie as tie

returns : tie.Need-returns
unfolding group_start
returns c = search rules

pub group_start_spec : {M : Type 1} → statement M
group_start_spec = tie.close (tie.spec (λ c. search rules) returns)
