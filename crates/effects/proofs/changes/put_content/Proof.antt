-- `effects::changes::put_content` meets its contract, update by update. Assumes nothing.
use borrow.Author.Rules.{rules}
use mathlib.Core.Path.{ap, ◌∙◌}
use Rattle.lockpage.specs.Geometry.{present}
use Rattle.lockpage.specs.declared.Update.{Update}
use Rattle.machine.specs.declared.Kind.TheVariants.{Change}
use Rattle.machine.specs.Question.{content_length}
use Rattle.machine.specs.Effect.{stored, put_content}
use Rattle.effects.proofs.changes.put_content.Statement.{statement}
use Rattle.effects.proofs.changes.put_content.Tie as tie

store-block-requires : tie.Need-store_block-requires
store-block-requires c κs =
    (c.requires.0, c.requires.1 ∙ ap (λ (u : Update). content_length present (Change u)) c.in-Write.is)

write : tie.Need-returns-in-Write
unfolding stored put_content
write c =
    rw c.in-Write.is c.store_block.ensures

unfreeze : tie.Need-returns-in-Unfreeze
unfolding stored put_content
unfreeze c = rw c.in-Unfreeze.is

increment : tie.Need-returns-in-Increment
unfolding stored put_content
increment c = rw c.in-Increment.is

pub put_content_spec : {M : Type 1} → statement M
put_content_spec =
    tie.close
    (tie.spec (λ c. search rules) store-block-requires (λ c. search rules) (λ c. search rules) (λ c. search rules) write unfreeze increment)
