-- `answers::shows::answer_entry` meets its contract: zeros, and the three parts one after the other over them. Assumes nothing.
use borrow.Author.Rules.{rules}
use Rattle.lockpage.proofs.GeometryLaw.{present_proper as σ}
use Rattle.answers.proofs.ShowLaw.{entry_answered}
use Rattle.answers.proofs.shows.answer_entry.Statement.{statement}
use Rattle.answers.proofs.shows.answer_entry.Tie as tie

returns : tie.Need-returns
returns c =
    entry_answered σ _ _ _ _ _ _ _ _ _ c.requires c.zero_tail.ensures c.store_entry.ensures
    c.store_time_left.ensures c.state.ensures c.from.ensures c.store_u8.ensures

pub answer_entry_spec : {M : Type 1} → statement M
answer_entry_spec =
    tie.close
    (tie.spec (λ c κs. search rules) (λ c κs. search rules) (λ c κs. search rules) (λ c. search rules) (λ c κs. search rules)
    (λ c κs. search rules) (λ c κs. search rules) (λ c. search rules) returns)
