-- `disk::whole::lend_block` meets its contract, by its group's extent and its place there. Assumes nothing.
use borrow.Author.Rules.{rules}
use Rattle.lockpage.proofs.GeometryLaw.{present_proper as σ}
use Rattle.addressing.proofs.MapLaw.{physical_at, place_of_in}
use Rattle.disk.proofs.LentLaw.{has_computed, cut_length, block_read}
use Rattle.disk.proofs.whole.lend_block.Statement.{statement}
use Rattle.disk.proofs.whole.lend_block.Tie as tie

-- where it starts, once the group is found
abbrev start : tie.After-group_of → tie.Start
start c = c.before.before

lend-block-requires : tie.Need-lend_block-requires
lend-block-requires c κs =
    let cut = c.before in
    let found = cut.before in (
      cut_length σ _ _ _ _ (start found).requires found.group_of.ensures cut.extent-lent.ensures,
      place_of_in σ _ _ c.place_of.ensures,
    )

returns : tie.Need-returns
returns c =
    let placed = c.before in
    let cut = placed.before in
    let found = cut.before in
    let place = placed.place_of.ensures in
    block_read σ _ _ _ _ (start found).requires found.group_of.ensures cut.extent-lent.ensures _ _ _ (place_of_in σ _ _ place)
    (physical_at σ _ _ place) c.lend_block.ensures

pub lend_block_spec : {M : Type 1} → statement M
lend_block_spec =
    tie.close
    (tie.spec (λ c κs. search rules) (λ c κs. has_computed σ _ _ _ (start c).requires c.group_of.ensures) (λ c κs. search rules)
    lend-block-requires returns)
