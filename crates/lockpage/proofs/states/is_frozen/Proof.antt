-- `lockpage::states::is_frozen` meets its contract. Assumes nothing.
use borrow.Author.Rules.{rules}
use Rattle.lockpage.specs.Entry.{flag, is_frozen}
use Rattle.lockpage.proofs.states.is_frozen.Statement.{statement}
use Rattle.lockpage.proofs.states.is_frozen.Tie as tie

returns : tie.Need-returns
unfolding is_frozen flag
returns c = search rules

pub is_frozen_spec : {M : Type 1} → statement M
is_frozen_spec = tie.close (tie.spec returns)
