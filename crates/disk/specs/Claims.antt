-- What a reader wants to know of groups on the disk. The claim is a type; its proof has the claim's name in proofs/Theorems.antt.
use Rattle.std.specs.Prelude.{ℕ, ◌+◌, ◌*◌, ◌<◌, ◌≡◌, List, length}
use Rattle.lockpage.specs.Geometry.{Geometry}
use Rattle.lockpage.specs.Size.{block_size}
use Rattle.addressing.specs.Map.{group_blocks}
use Rattle.disk.specs.Disk.{with_block, extent, with_extent, HasGroup}

-- γ is the box's geometry
module _ (γ : Geometry) where
  -- a block stored within a group's extent, and the extent put back, is that block stored on the disk
  unfoldable pub StoredInExtent : Type 0
  StoredInExtent = (disk : List ℕ) (g place : ℕ) (new : List ℕ) → HasGroup γ disk g → place < group_blocks γ → length new ≡ block_size γ
      → with_extent γ disk g (with_block γ (extent γ disk g) place new) ≡ with_block γ disk (group_blocks γ * g + place) new
