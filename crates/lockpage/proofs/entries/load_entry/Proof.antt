-- `lockpage::entries::load_entry` meets its contract, by those of the two loads. Assumes nothing.
use borrow.Author.Rules.{rules}
use Rattle.lockpage.proofs.PageLaw.{entry_loaded}
use Rattle.lockpage.proofs.entries.load_entry.Statement.{statement}
use Rattle.lockpage.proofs.entries.load_entry.Tie as tie

returns : tie.Need-returns
returns c = entry_loaded _ _ _ _ c.before.load_u32-word.ensures c.load_u32-stamp.ensures

pub load_entry_spec : {M : Type 1} → statement M
load_entry_spec =
    tie.close
    (tie.spec (λ c. search rules) (λ c κs. search rules) (λ c. search rules) (λ c κs. search rules) returns)
