-- `addressing::disk_size` meets its contract. Assumes nothing.
use borrow.Author.Rules.{rules}
use Rattle.addressing.specs.Map.{disk_size}
use Rattle.addressing.proofs.disk_size.Statement.{statement}
use Rattle.addressing.proofs.disk_size.Tie as tie

returns : tie.Need-returns
unfolding disk_size
returns c = search rules

pub disk_size_spec : {M : Type 1} → statement M
disk_size_spec = tie.close (tie.spec (λ c. search rules) returns)
