-- `disk::group::lend_block` meets its contract: the block's part is cut out. Assumes nothing.
use borrow.Author.Rules.{rules}
use native.Mathlib.Omega.{arith}
use Prim.Native.Nat.{◌+◌, ◌≤◌}
use lib.ListN.{length}
use Rattle.lockpage.specs.Geometry.{present}
use Rattle.lockpage.specs.Size.{block_size}
use Rattle.lockpage.proofs.GeometryLaw.{present_proper as σ}
use Rattle.addressing.proofs.MapLaw.{block_start_place}
use Rattle.disk.proofs.LentLaw.{block_cut}
use Rattle.disk.proofs.group.lend_block.Statement.{statement}
use Rattle.disk.proofs.group.lend_block.Tie as tie

-- the block's end in the extent
ends : (c : tie.After-block_start-from) → c.block_start-from.result + block_size present ≤ length c.before.before.args.group.now
ends c =
    let start = c.before.before in
    omega (arith, c.block_start-from.ensures, start.requires.0, block_start_place σ start.args.place start.requires.1)

returns : tie.Need-returns
returns c = block_cut σ _ _ _ c.before.block_start-from.ensures

pub lend_block_spec : {M : Type 1} → statement M
lend_block_spec =
    tie.close
    (tie.spec (λ c κs. search rules) (λ c. omega (arith, ends c)) (λ c. search rules) (λ c. search rules) (λ c. omega (arith, ends c)) returns)
