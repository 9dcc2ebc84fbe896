-- `answers::shows::show_page` meets its contract: the current page at the answer's front, then its tag. Assumes nothing.
use borrow.Author.Rules.{rules}
use mathlib.Core.Path.{◌∙◌}
use native.Mathlib.Omega.{arith}
use Rattle.lockpage.proofs.GeometryLaw.{present_proper as σ}
use Rattle.disk.proofs.DiskLaw.{has_group}
use Rattle.validity.proofs.ValidLaw.{facts}
use Rattle.answers.proofs.ShowLaw.{page_outcome}
use Rattle.answers.proofs.shows.show_page.Statement.{statement}
use Rattle.answers.proofs.shows.show_page.Tie as tie

fetch-requires : tie.Need-fetch-requires
fetch-requires c κs =
    let ready = c.requires in
    record {
      memory_size_is = c.memory-1.given ∙ (facts σ _ ready.box.memory).size;
      group = has_group σ _ _ _ ready.box.disk ready.group;
      page_size_is = search rules;
    }

store-tag-requires : tie.Need-store_tag-requires
store-tag-requires c κs =
    let ready = c.requires in
    let v = facts σ _ ready.box.memory in
    (record { size = c.memory-1.given ∙ v.size; group = omega (arith, v.most, ready.group) }, search rules)

returns : tie.Need-returns
returns c =
    let ready = c.requires in
    page_outcome σ _ _ _ _ c.set_last_time.ensures c.args.answer.now _ _ _ (facts σ _ ready.box.memory).size
    (omega (arith, c.ranges.time)) ready.box.disk ready.group c.fetch.ensures.1 c.store_tag.ensures

pub show_page_spec : {M : Type 1} → statement M
show_page_spec =
    tie.close
    (tie.spec (λ c κs. (facts σ _ c.requires.box.memory).size) (λ c. search rules) (λ c. search rules)
    (λ c. search rules) fetch-requires store-tag-requires (λ c. search rules) (λ c. search rules) returns)
