-- What a reader wants to know of the address map. Each claim is a type; its proof has the claim's name in proofs/Theorems.antt.
use Rattle.std.specs.Prelude.{ℕ, ◌+◌, ◌*◌, ◌/◌, ◌%◌, ◌≤◌, ◌<◌, ◌≡◌}
use Rattle.lockpage.specs.Geometry.{Geometry, base}
use Rattle.lockpage.specs.Size.{block_size}
use Rattle.addressing.specs.Map.{group_data, group_blocks, group_size, disk_size, data_blocks, group_of, place_of, page_place, physical, page_block, group_start}
use Rattle.addressing.specs.Map.{block_start}

-- document 01's sizes: "A group is 64 data blocks and then one lock page"; "its disk is G × 33,280 bytes"
pub record PapersDiskSizes : Type 0 where
  pub data_blocks_is : group_data base ≡ 64
  pub blocks : group_blocks base ≡ 65
  pub bytes : group_size base ≡ 33280

-- document 02, Q-5: "For every block below 64 × G its group, place in the group and physical block stay those of document 01." The last
-- three are so for every number
pub record PapersMap (γ : Geometry) : Type 0 where
  pub of_box : (groups a : ℕ) → a < 64 * groups → group_of γ a < groups
  pub group : (a : ℕ) → group_of γ a ≡ a / 64
  pub place : (a : ℕ) → place_of γ a ≡ a % 64
  pub physical_block : (a : ℕ) → physical γ a ≡ a + a / 64

-- γ is the box's geometry
module _ (γ : Geometry) where
  -- a box of G groups has 65 × G blocks, at base: each data block and each page is one of them
  pub record Inside (groups : ℕ) : Type 0 where
    pub data_block : (a : ℕ) → a < data_blocks γ groups → physical γ a < group_blocks γ * groups
    pub page : (g : ℕ) → g < groups → page_block γ g < group_blocks γ * groups
    pub bytes : block_start γ (group_blocks γ * groups) ≡ disk_size γ groups

  -- no two of them are the same block
  pub record Apart : Type 0 where
    pub data_blocks_is : (a b : ℕ) → physical γ a ≡ physical γ b → a ≡ b
    pub pages : (g h : ℕ) → page_block γ g ≡ page_block γ h → g ≡ h
    pub data_and_page : (a g : ℕ) → physical γ a ≡ page_block γ g → ⊥

  -- a data block's place on the disk is its group's extent plus its offset within the group, and so is a page's
  pub record Within : Type 0 where
    pub data_block : (a : ℕ) → block_start γ (physical γ a) ≡ group_start γ (group_of γ a) + block_start γ (place_of γ a)
    pub data_place : (a : ℕ) → place_of γ a < page_place γ
    pub page : (g : ℕ) → block_start γ (page_block γ g) ≡ group_start γ g + block_start γ (page_place γ)
    pub page_last : block_start γ (page_place γ) + block_size γ ≡ group_size γ

  -- the extents of two groups are disjoint
  unfoldable pub ExtentsApart : Type 0
  ExtentsApart = (g h : ℕ) → g < h → group_start γ g + group_size γ ≤ group_start γ h

  -- and they cover the disk: byte k is in the extent of a group of the box
  pub record InExtent (groups k : ℕ) : Type 0 where
    pub group : ℕ
    pub of_box : group < groups
    pub starts : group_start γ group ≤ k
    pub ends : k < group_start γ group + group_size γ

  unfoldable pub ExtentsCover : Type 0
  ExtentsCover = (groups k : ℕ) → k < disk_size γ groups → InExtent groups k
