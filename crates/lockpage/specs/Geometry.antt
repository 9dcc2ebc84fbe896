-- A box's geometry: the numbers by which one kind of box differs from another. Definitions take it as their first argument, so that an
-- old box and a new one are two instances of the same definitions. Assumes nothing: these are definitions.
use Rattle.std.specs.Prelude.{ℕ, ◌≤◌}

pub record Geometry : Type 0 where
  -- the entries of a lock page, one for each data block of its group
  pub entries : ℕ
  -- the most groups that a box may have, and so the counts in its memory
  pub most_groups : ℕ

-- what the laws ask of a geometry. Document 02's largest box, of 4,096-byte blocks and 64 groups, has it
pub record Proper (γ : Geometry) : Type 0 where
  -- a block's number has a quotient and a remainder by it
  pub some_entries : 1 ≤ γ.entries
  -- the number of a box's data blocks has four bytes, and its tag's message is one that the digest takes
  pub few_entries : γ.entries ≤ 512
  -- a group's number is a byte, and not 255
  pub few_groups : γ.most_groups ≤ 64

-- document 01's box: "A page has 64 entries"; "A box has G groups, 1 to 16"
abbrev pub base : Geometry
base = record { entries = 64; most_groups = 16 }

-- γ with n groups at most
abbrev pub widened : Geometry → ℕ → Geometry
widened γ n = record { entries = γ.entries; most_groups = n }

-- the box that the code runs. Document 02, Q-7: "G may be 1 to 64. The memory has 64 counts"
abbrev pub present : Geometry
present = widened base 64
