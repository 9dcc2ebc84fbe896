-- Where each field of the store's state stands, one after the other: bytes that the caller lends, and hands on from call to call. The
-- paper names no places. Assumes nothing: these are definitions.
use Rattle.std.specs.Prelude.{ℕ, ◌+◌, ◌-◌, ◌*◌}
use Rattle.lockpage.specs.Geometry.{Geometry}
use Rattle.versions_machine.specs.Log.{record_size, records_per_block}
use Rattle.versions_machine.specs.Call.{last_part}

-- of a lock, a block's number, and a number of records
abbrev pub field_size : ℕ
field_size = 4

-- 0..3
abbrev pub lock_start : ℕ
lock_start = 0

-- 4..7
abbrev pub reserve_start : ℕ
reserve_start = lock_start + field_size

-- 8..11
abbrev pub taken_start : ℕ
taken_start = reserve_start + field_size

-- 12..15
abbrev pub record_count_start : ℕ
record_count_start = taken_start + field_size

-- 16..1039: the newest block of each part, "0 to 255"
abbrev pub newests_start : ℕ
newests_start = record_count_start + field_size

abbrev pub newest_start : ℕ → ℕ
newest_start part = newests_start + field_size * part

abbrev pub parts : ℕ
parts = last_part + 1

-- 1040..1535: the records that no log block has yet
abbrev pub records_start : ℕ
records_start = newest_start parts

abbrev pub record_start : ℕ → ℕ
record_start i = records_start + record_size * i

-- γ is the box's geometry; the numbers given are those at base
module _ (γ : Geometry) where
  -- one less than a log block has: 62
  abbrev pub most_records : ℕ
  most_records = records_per_block γ - 1

  -- 1,536
  abbrev pub state_size : ℕ
  state_size = record_start most_records
