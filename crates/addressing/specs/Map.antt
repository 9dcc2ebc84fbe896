-- The address map, after document 01, "Disk": where data blocks, lock pages and groups lie. Blocks are counted from the start of the
-- disk or, as places, from the start of a group. Assumes nothing: these are definitions.
use Rattle.std.specs.Prelude.{ℕ, ◌+◌, ◌*◌, ◌/◌, ◌%◌}
use Rattle.lockpage.specs.Geometry.{Geometry}
use Rattle.lockpage.specs.Size.{block_size}

-- γ is the box's geometry; the numbers quoted are those at base
module _ (γ : Geometry) where
  -- "A group is 64 data blocks and then one lock page": the page has an entry for each data block
  abbrev pub group_data : ℕ
  group_data = γ.entries

  abbrev pub group_blocks : ℕ
  group_blocks = group_data + 1

  abbrev pub group_size : ℕ
  group_size = group_blocks * block_size γ

  -- "its disk is G × 33,280 bytes"; its data blocks are those below 64 × G
  unfoldable pub disk_size : ℕ → ℕ
  disk_size groups = groups * group_size

  unfoldable pub data_blocks : ℕ → ℕ
  data_blocks groups = group_data * groups

  -- the group of data block a, and its place in that group, which is also the place of its entry on the group's page
  unfoldable pub group_of : ℕ → ℕ
  group_of a = a / group_data

  unfoldable pub place_of : ℕ → ℕ
  place_of a = a % group_data

  -- the page's place in its group: after the data blocks
  abbrev pub page_place : ℕ
  page_place = group_data

  -- "Data block a lies at physical block a + a div 64."
  unfoldable pub physical : ℕ → ℕ
  physical a = a + a / group_data

  -- "The page of group g lies at 65 × g + 64."
  unfoldable pub page_block : ℕ → ℕ
  page_block g = group_blocks * g + group_data

  -- "Each group is worked on as its own stretch of the disk, from its first byte": byte 33,280 × g
  unfoldable pub group_start : ℕ → ℕ
  group_start g = group_size * g

  -- the first byte of block p of a disk, or of the block at place p of a group
  unfoldable pub block_start : ℕ → ℕ
  block_start p = block_size γ * p
