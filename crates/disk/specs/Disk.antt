-- Blocks and groups in the bytes of a disk, after document 01, "Disk". Assumes nothing: these are definitions.
use Rattle.std.specs.Prelude.{ℕ, ◌+◌, ◌≤◌, List, length}
use Rattle.octets.specs.Part.{part, replaced}
use Rattle.lockpage.specs.Geometry.{Geometry}
use Rattle.lockpage.specs.Size.{block_size}
use Rattle.addressing.specs.Map.{group_size, group_start, block_start}

-- γ is the box's geometry
module _ (γ : Geometry) where
  -- block p of a disk, or of a group; and it replaced
  unfoldable pub block : List ℕ → ℕ → List ℕ
  block l p = part l (block_start γ p) (block_size γ)

  unfoldable pub with_block : List ℕ → ℕ → List ℕ → List ℕ
  with_block l p new = replaced l (block_start γ p) new

  -- "its own stretch of the disk": the bytes of group g; and they replaced
  unfoldable pub extent : List ℕ → ℕ → List ℕ
  extent disk g = part disk (group_start γ g) (group_size γ)

  unfoldable pub with_extent : List ℕ → ℕ → List ℕ → List ℕ
  with_extent disk g new = replaced disk (group_start γ g) new

  -- the disk has group g
  unfoldable pub HasGroup : List ℕ → ℕ → Type 0
  HasGroup disk g = group_start γ g + group_size γ ≤ length disk
