-- `answers::shows::show_entry` meets its contract: the block's entry on the current page, answered. Assumes nothing.
use borrow.Author.Rules.{rules}
use mathlib.Core.Path.{◌∙◌}
use Rattle.lockpage.proofs.GeometryLaw.{present_proper as σ}
use Rattle.disk.proofs.DiskLaw.{has_group_of}
use Rattle.validity.proofs.ValidLaw.{facts}
use Rattle.answers.proofs.ShowLaw.{entry_outcome}
use Rattle.answers.proofs.shows.show_entry.Statement.{statement}
use Rattle.answers.proofs.shows.show_entry.Tie as tie

entry-requires : tie.Need-entry-e-requires
entry-requires c κs =
    let ready = c.requires in
    (c.memory-1.given ∙ (facts σ _ ready.box.memory).size, has_group_of σ _ _ _ ready.box.disk ready.block)

returns : tie.Need-returns
returns c =
    entry_outcome σ _ _ _ _ c.set_last_time.ensures _ _ _ c.entry-e.ensures c.answer_entry.ensures

pub show_entry_spec : {M : Type 1} → statement M
show_entry_spec =
    tie.close
    (tie.spec (λ c κs. (facts σ _ c.requires.box.memory).size) entry-requires (λ c κs. search rules)
    (λ c. search rules) (λ c. search rules) returns)
