-- `disk::whole::read_page` meets its contract, by the group's extent. Assumes nothing.
use borrow.Author.Rules.{rules}
use mathlib.Core.Path.{refl}
use native.Mathlib.Omega.{arith}
use Rattle.lockpage.specs.Geometry.{present}
use Rattle.lockpage.proofs.GeometryLaw.{present_proper as σ}
use Rattle.addressing.specs.Map.{page_place}
use Rattle.addressing.proofs.MapLaw.{page_block_place}
use Rattle.disk.proofs.LentLaw.{cut_length, block_read}
use Rattle.disk.proofs.whole.read_page.Statement.{statement}
use Rattle.disk.proofs.whole.read_page.Tie as tie

-- where it starts, once the group's extent is cut
abbrev start : tie.After-extent → tie.Start
start c = c.before.before.before

read-block-requires : tie.Need-read_block-requires
read-block-requires c κs =
    let cut = c.before in
    let ready = (start cut).requires in
    record {
      extent_size = cut_length σ _ _ _ _ ready.0 refl cut.extent.ensures;
      inside = omega arith;
      block_size_is = ready.1;
    }

returns : tie.Need-returns
returns c =
    let called = c.before.before in
    let cut = called.before.before in
    block_read σ _ _ _ _ (start cut).requires.0 refl cut.extent.ensures _ (page_place present) _ (omega arith) (page_block_place σ _)
    called.read_block.ensures

pub read_page_spec : {M : Type 1} → statement M
read_page_spec = tie.close (tie.spec (λ c κs. search rules) read-block-requires (λ c. search rules) returns)
