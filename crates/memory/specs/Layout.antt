-- Where each field of the controller memory stands, one after the other, after document 01, "Controller memory, 616 bytes". That
-- the places are the papers' numbers are the claims PapersPlaces and PapersPresentPlaces. Assumes nothing: these are definitions.
use Rattle.std.specs.Prelude.{ℕ, ◌+◌, ◌*◌}
use Rattle.lockpage.specs.Geometry.{Geometry}
use Rattle.lockpage.specs.Size.{page_size}

-- "0..31 salt"
abbrev pub salt_start : ℕ
salt_start = 0

abbrev pub salt_size : ℕ
salt_size = 32

-- "32..95 sixteen 4-byte freshness counts"
abbrev pub counts_start : ℕ
counts_start = salt_start + salt_size

abbrev pub count_size : ℕ
count_size = 4

abbrev pub count_start : ℕ → ℕ
count_start g = counts_start + count_size * g

-- of the fields behind them
abbrev pub time_size : ℕ
time_size = 4

abbrev pub byte_size : ℕ
byte_size = 1

abbrev pub reserved_size : ℕ
reserved_size = 1

-- γ is the box's geometry; the numbers quoted are those at base
module _ (γ : Geometry) where
  -- "96..99 last time"
  abbrev pub time_start : ℕ
  time_start = counts_start + count_size * γ.most_groups

  -- "100 G; 101 held group or 255"
  abbrev pub groups_start : ℕ
  groups_start = time_start + time_size

  abbrev pub held_start : ℕ
  held_start = groups_start + byte_size

  -- document 02, Q-4: "Byte 102 of the memory now counts updates to the held page"
  abbrev pub update_count_start : ℕ
  update_count_start = held_start + byte_size

  -- and of "102, 103 zero" is left 103
  abbrev pub reserved_start : ℕ
  reserved_start = update_count_start + byte_size

  -- "104..615 held page"
  abbrev pub page_start : ℕ
  page_start = reserved_start + reserved_size

  abbrev pub memory_size : ℕ
  memory_size = page_start + page_size γ
