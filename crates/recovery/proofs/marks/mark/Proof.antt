-- `recovery::marks::mark` meets its contract. Assumes nothing.
use borrow.Author.Rules.{rules}
use Rattle.recovery.proofs.MarksLaw.{mark_stored}
use Rattle.recovery.proofs.marks.mark.Statement.{statement}
use Rattle.recovery.proofs.marks.mark.Tie as tie

returns : tie.Need-returns
returns c = mark_stored _ _

pub mark_spec : {M : Type 1} → statement M
mark_spec =
    tie.close
    (tie.spec (λ c. search rules) (λ c. search rules) (λ c. search rules) (λ c. search rules) (λ c. search rules) (λ c. search rules) returns)
