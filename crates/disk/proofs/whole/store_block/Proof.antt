-- `disk::whole::store_block` meets its contract, by its group and its place there. Assumes nothing.
use borrow.Author.Rules.{rules}
use mathlib.Core.Path.{ap, ◌∙◌}
use Prim.Native.Nat.{ℕ}
use Rattle.lockpage.specs.Geometry.{present}
use Rattle.lockpage.proofs.GeometryLaw.{present_proper as σ}
use Rattle.addressing.proofs.MapLaw.{physical_of, place_of_in}
use Rattle.disk.specs.Disk.{with_block}
use Rattle.disk.proofs.LentLaw.{has_computed}
use Rattle.disk.proofs.whole.store_block.Statement.{statement}
use Rattle.disk.proofs.whole.store_block.Tie as tie

-- where it starts, once group and place are found
abbrev start : tie.After-place_of-place → tie.Start
start c = c.before.before.before.before

store-at-requires : tie.Need-store_at-requires
store-at-requires c κs =
    let placed = c.before in
    let ready = (start placed).requires in
    record {
      group = has_computed σ _ _ _ ready.0 placed.before.group_of-group.ensures;
      inside = place_of_in σ _ _ placed.place_of-place.ensures;
      block_size_is = ready.1;
    }

returns : tie.Need-returns
returns c =
    let called = c.before.before in
    let placed = called.before.before in
    let x = (start placed).args in
    called.store_at.ensures
    ∙ ap (λ (p : ℕ). with_block present x.disk.now p x.content.now)
    (physical_of σ x.block _ _ placed.before.group_of-group.ensures placed.place_of-place.ensures)

pub store_block_spec : {M : Type 1} → statement M
store_block_spec =
    tie.close (tie.spec (λ c κs. search rules) (λ c κs. search rules) store-at-requires (λ c. search rules) returns)
