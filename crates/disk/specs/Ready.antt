-- What the functions on the disk ask for. Assumes nothing: these are definitions.
use Rattle.std.specs.Prelude.{◌≡◌, List, ℕ, ◌<◌, length}
use Rattle.lockpage.specs.Geometry.{Geometry}
use Rattle.lockpage.specs.Size.{block_size}
use Rattle.addressing.specs.Map.{group_blocks, group_size}
use Rattle.disk.specs.Disk.{HasGroup}

-- γ is the box's geometry
module _ (γ : Geometry) where
  -- a group's extent, a place in it, and a block's bytes
  pub record PlaceReady (group : List ℕ) (place : ℕ) (bytes : List ℕ) : Type 0 where
    pub extent_size : length group ≡ group_size γ
    pub inside : place < group_blocks γ
    pub block_size_is : length bytes ≡ block_size γ

  -- a disk with group g, a place in that, and a block's bytes
  pub record StoreReady (disk : List ℕ) (g place : ℕ) (bytes : List ℕ) : Type 0 where
    pub group : HasGroup γ disk g
    pub inside : place < group_blocks γ
    pub block_size_is : length bytes ≡ block_size γ
