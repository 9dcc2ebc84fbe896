-- `lockpage::states::state` meets its contract, in its three ways. Assumes nothing.
use borrow.Author.Rules.{rules}
use mathlib.Core.Path.{sym, ◌∙◌}
use Rattle.lockpage.proofs.StateLaw.{state_frozen, state_counting, state_free}
use Rattle.lockpage.proofs.states.state.Statement.{statement}
use Rattle.lockpage.proofs.states.state.Tie as tie

free : tie.Need-returns
free c =
    let asked = c.before.before in
    sym (state_free _ _ (sym asked.before.is_frozen.ensures ∙ (search rules)) (search rules))

pub state_spec : {M : Type 1} → statement M
state_spec = tie.close (tie.spec (λ c κs. search rules) (λ c. sym (state_frozen _ _ (sym c.before.is_frozen.ensures ∙ (search rules)))) (λ c. let asked = c.before.before in sym (state_counting _ _ (sym asked.before.is_frozen.ensures ∙ (search rules)) (search rules))) free)
