-- `tags::tag` meets its contract: the digest of the message. Assumes nothing.
use borrow.Author.Rules.{rules}
use mathlib.Core.Path.{ap, ◌∙◌}
use Rattle.blake3.specs.Blake3.{digest}
use Rattle.machine.specs.Tag.{tag}
use Rattle.tags.proofs.tag.Statement.{statement}
use Rattle.tags.proofs.tag.Tie as tie

returns : tie.Need-returns
unfolding tag
returns c =
    let digested = c.before.before in
    let stored = digested.before.before.before.before in
    digested.digest.ensures ∙ ap digest stored.store_message.ensures

pub tag_spec : {M : Type 1} → statement M
tag_spec =
    tie.close
    (tie.spec (λ c. search rules) (λ c κs. search rules) (λ c. search rules) (λ c κs. search rules) (λ c. search rules) returns)
