-- `disk::whole::store_at` meets its contract: the group's extent is lent and comes back with the block stored. Assumes nothing.
use borrow.Author.Rules.{rules}
use mathlib.Core.Path.{refl}
use native.Mathlib.Omega.{arith}
use Prim.Native.Nat.{◌+◌, ◌≤◌}
use lib.ListN.{length}
use Rattle.lockpage.specs.Geometry.{present}
use Rattle.lockpage.proofs.GeometryLaw.{present_proper as σ}
use Rattle.addressing.specs.Map.{group_size}
use Rattle.disk.proofs.LentLaw.{extent_end, block_stored}
use Rattle.disk.proofs.whole.store_at.Statement.{statement}
use Rattle.disk.proofs.whole.store_at.Tie as tie

-- where it starts, once the extent's start is found
abbrev start : tie.After-group_start-from → tie.Start
start c = c.before.before.before

-- the extent's end on the disk
ends : (c : tie.After-group_start-from) → c.group_start-from.result + group_size present ≤ length (start c).args.disk.now
ends c = extent_end σ _ _ _ (start c).requires.group c.group_start-from.ensures

returns : tie.Need-returns
returns c =
    let called = c.before.before in
    let started = called.before.before in
    let ready = (start started).requires in
    block_stored σ _ _ _ _ _ _ _ ready.group ready.inside started.group_start-from.ensures refl ready.block_size_is
    called.store_block.ensures

pub store_at_spec : {M : Type 1} → statement M
store_at_spec =
    tie.close
    (tie.spec (λ c κs. search rules) (λ c. omega (arith, ends c)) (λ c. search rules) (λ c. search rules) (λ c. omega (arith, ends c))
    (λ c κs. search rules) (λ c. search rules) returns)
