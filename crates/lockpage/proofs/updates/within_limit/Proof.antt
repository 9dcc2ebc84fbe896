-- `lockpage::updates::within_limit` meets its contract, under either limit. Assumes nothing.
use borrow.Author.Rules.{rules}
use mathlib.Core.Path.{sym, ◌∙◌}
use Rattle.lockpage.proofs.UpdateLaw.{within_lock, within_expiry}
use Rattle.lockpage.proofs.updates.within_limit.Statement.{statement}
use Rattle.lockpage.proofs.updates.within_limit.Tie as tie

lock : tie.Need-returns-then-is_frozen
lock c =
    let asked = c.before in
    let word = asked.before.before.new_word-word.ensures in
    let stamp = asked.before.new_stamp-stamp.ensures in
    rw word (within_lock _ (rw (← stamp) (sym asked.is_frozen.ensures ∙ c.if-is_frozen.true)))

expiry : tie.Need-returns
expiry c =
    let asked = c.before in
    let word = asked.before.before.new_word-word.ensures in
    let stamp = asked.before.new_stamp-stamp.ensures in
    rw word (within_expiry _ (rw (← stamp) (sym asked.is_frozen.ensures ∙ c.if-is_frozen.false)))

pub within_limit_spec : {M : Type 1} → statement M
within_limit_spec = tie.close (tie.spec (λ c κs. search rules) (λ c κs. search rules) (λ c κs. search rules) lock expiry)
