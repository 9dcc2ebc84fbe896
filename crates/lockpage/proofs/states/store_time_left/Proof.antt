-- `lockpage::states::store_time_left` meets its contract, by those of the two functions that it calls. Assumes nothing.
use borrow.Author.Rules.{rules}
use Rattle.lockpage.proofs.StateLaw.{left_stored}
use Rattle.lockpage.proofs.states.store_time_left.Statement.{statement}
use Rattle.lockpage.proofs.states.store_time_left.Tie as tie

returns : tie.Need-returns
returns c =
    let stored = c.before.before in
    left_stored _ _ _ _ _ _ (record { sfits = stored.before.time_left.type_inv }) stored.store_i64.ensures stored.before.time_left.ensures

pub store_time_left_spec : {M : Type 1} → statement M
store_time_left_spec = tie.close (tie.spec (λ c κs. search rules) (λ c κs. search rules) (λ c. search rules) returns)
