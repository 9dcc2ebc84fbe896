-- `tags::matches` meets its contract: the tag brought is compared with that of the page brought. Assumes nothing.
use borrow.Author.Rules.{rules}
use mathlib.Core.Path.{ap, ◌∙◌}
use Rattle.octets.specs.Part.{part, equal}
use Rattle.machine.specs.Command.{brought_page, brought_tag}
use Rattle.tags.proofs.matches.Statement.{statement}
use Rattle.tags.proofs.matches.Tie as tie

returns : tie.Need-returns
unfolding part brought_page brought_tag
returns c =
    let made = c.before.before.before.before in
    c.equal.ensures ∙ ap (equal _) made.tag.ensures

pub matches_spec : {M : Type 1} → statement M
matches_spec =
    tie.close
    (tie.spec (λ c. search rules) (λ c. search rules) (λ c. search rules) (λ c. search rules) (λ c κs. search rules) (λ c. search rules)
    (λ c. search rules) (λ c. search rules) (λ c. search rules) (λ c κs. search rules) returns)
