-- `lockpage::entries::store_entry` meets its contract, by those of the two stores. Assumes nothing.
use borrow.Author.Rules.{rules}
use Rattle.lockpage.proofs.PageLaw.{entry_stored}
use Rattle.lockpage.proofs.entries.store_entry.Statement.{statement}
use Rattle.lockpage.proofs.entries.store_entry.Tie as tie

returns : tie.Need-returns
returns c =
    let second = c.before.before in
    let first = second.before.before.before.before in
    entry_stored _ _ _ _ _ first.before.before.before.requires first.store_u32.ensures second.store_u32-2.ensures

pub store_entry_spec : {M : Type 1} → statement M
store_entry_spec =
    tie.close (tie.spec (λ c. search rules) (λ c κs. search rules) (λ c. search rules) (λ c κs. search rules) (λ c. search rules) returns)
