-- Sizes, after document 01, "Disk". That they are the paper's numbers is the claim PapersPageSizes. Assumes nothing: these are definitions.
use Rattle.std.specs.Prelude.{ℕ, ◌+◌, ◌*◌}
use Rattle.lockpage.specs.Geometry.{Geometry}

-- "entries of 8 bytes: a 4-byte word, then a 4-byte stamp"
abbrev pub word_size : ℕ
word_size = 4

abbrev pub entry_size : ℕ
entry_size = word_size + word_size

-- γ is the box's geometry; the numbers quoted are those at base
module _ (γ : Geometry) where
  -- "A page has 64 entries of 8 bytes": 64 of them, at base
  abbrev pub page_size : ℕ
  page_size = entry_size * γ.entries

  -- "A block is 512 bytes", and a lock page takes one block
  abbrev pub block_size : ℕ
  block_size = page_size
