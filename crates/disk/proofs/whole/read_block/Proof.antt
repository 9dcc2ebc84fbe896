-- `disk::whole::read_block` meets its contract, by its group's extent and its place there. Assumes nothing.
use borrow.Author.Rules.{rules}
use Rattle.lockpage.proofs.GeometryLaw.{present_proper as σ}
use Rattle.addressing.proofs.MapLaw.{physical_at, place_of_in}
use Rattle.disk.proofs.LentLaw.{has_computed, cut_length, block_read}
use Rattle.disk.proofs.whole.read_block.Statement.{statement}
use Rattle.disk.proofs.whole.read_block.Tie as tie

-- where it starts, once the group is found
abbrev start : tie.After-group_of → tie.Start
start c = c.before.before.before

read-block-requires : tie.Need-read_block-requires
read-block-requires c κs =
    let placed = c.before in
    let cut = placed.before in
    let found = cut.before in
    let ready = (start found).requires in
    record {
      extent_size = cut_length σ _ _ _ _ ready.0 found.group_of.ensures cut.extent-group.ensures;
      inside = place_of_in σ _ _ placed.place_of.ensures;
      block_size_is = ready.1;
    }

returns : tie.Need-returns
returns c =
    let called = c.before.before in
    let placed = called.before.before in
    let cut = placed.before in
    let found = cut.before in
    let place = placed.place_of.ensures in
    block_read σ _ _ _ _ (start found).requires.0 found.group_of.ensures cut.extent-group.ensures _ _ _ (place_of_in σ _ _ place)
    (physical_at σ _ _ place) called.read_block.ensures

pub read_block_spec : {M : Type 1} → statement M
read_block_spec =
    tie.close
    (tie.spec (λ c κs. search rules) (λ c κs. has_computed σ _ _ _ (start c).requires.0 c.group_of.ensures) (λ c κs. search rules)
    read-block-requires (λ c. search rules) returns)
