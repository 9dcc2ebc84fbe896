-- `recovery::marks::is_marked` meets its contract. Assumes nothing.
use borrow.Author.Rules.{rules}
use Rattle.recovery.specs.Marks.{is_marked}
use Rattle.recovery.proofs.marks.is_marked.Statement.{statement}
use Rattle.recovery.proofs.marks.is_marked.Tie as tie

returns : tie.Need-returns
unfolding is_marked
returns c = search rules

pub is_marked_spec : {M : Type 1} → statement M
is_marked_spec = tie.close (tie.spec (λ c. search rules) (λ c. search rules) (λ c. search rules) (λ c. search rules) returns)
