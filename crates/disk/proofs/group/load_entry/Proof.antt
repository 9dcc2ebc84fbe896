-- `disk::group::load_entry` meets its contract: the page is lent to the entry's own function. Assumes nothing.
use borrow.Author.Rules.{rules}
use native.Mathlib.Omega.{arith}
use mathlib.Core.Path.{◌≡◌, ap, ◌∙◌}
use lib.ListN.{length}
use Rattle.lockpage.specs.Geometry.{present}
use Rattle.lockpage.specs.Size.{block_size}
use Rattle.lockpage.proofs.GeometryLaw.{present_proper as σ}
use Rattle.addressing.specs.Map.{page_place}
use Rattle.addressing.proofs.MapLaw.{block_start_place}
use Rattle.disk.proofs.DiskLaw.{block_length}
use Rattle.disk.proofs.LentLaw.{entry_cut}
use Rattle.disk.proofs.group.load_entry.Statement.{statement}
use Rattle.disk.proofs.group.load_entry.Tie as tie

load-entry-requires : tie.Need-load_entry-requires
load-entry-requires c κs =
    let start = c.before.before in
    let page_size_is : length c.lend_block.result.now ≡ block_size present =
    ap length c.lend_block.ensures
    ∙ block_length σ start.args.group.now (page_place present)
    (omega (arith, start.requires.0, block_start_place σ (page_place present) (omega arith))) in
    omega (arith, page_size_is, start.requires.1)

returns : tie.Need-returns
returns c = entry_cut _ _ _ _ c.before.lend_block.ensures c.load_entry.ensures

pub load_entry_spec : {M : Type 1} → statement M
load_entry_spec = tie.close (tie.spec (λ c κs. search rules) load-entry-requires returns)
