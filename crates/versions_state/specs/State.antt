-- The store's state as bytes: written from what the store keeps, read from any bytes, and which bytes no start and calls can have left.
-- Assumes nothing: these are definitions.
use Rattle.std.specs.Prelude.{Bool, true, false, ◌&&◌, ◌||◌, ℕ, zero, suc, ◌+◌, ◌-◌, ◌*◌, length, eqb, leb, ltb, Option, None}
use mathlib.Core.List.{List, [], ◌∷◌, ◌++◌, all}
use Rattle.octets.specs.Part.{part, repeated, equal}
use Rattle.octets.specs.Number.{bytes, number_at}
use Rattle.lockpage.specs.Geometry.{Geometry}
use Rattle.addressing.specs.Map.{data_blocks}
use Rattle.versions_machine.specs.Versions.{no_block, block_number, block_named, Record, Versions, versions_of}
use Rattle.versions_machine.specs.Log.{record_size, record_at, records_bytes, unused, is_sound}
use Rattle.versions_machine.specs.Allocation.{blocks_from}
use Rattle.versions_machine.specs.Call.{last_part}
use Rattle.versions_state.specs.Layout.{field_size, lock_start, reserve_start, taken_start, record_count_start, newest_start, parts}
use Rattle.versions_state.specs.Layout.{record_start, most_records, state_size}

-- ---- written

-- the blocks of so many parts, from one on
unfoldable pub newest_bytes : (ℕ → Option ℕ) → ℕ → ℕ → List ℕ
newest_bytes newest from zero = []
newest_bytes newest from (suc n) = bytes field_size (block_number (newest from)) ++ newest_bytes newest (from + 1) n

module _ (γ : Geometry) where
  -- the records, as a log block has them: "unused ones FF"
  unfoldable pub records_area : List Record → List ℕ
  records_area xs = records_bytes xs ++ repeated (record_size * (most_records γ - length xs)) unused

  unfoldable pub state_bytes : Versions → List ℕ
  state_bytes ν =
      bytes field_size ν.lock
      ++ (bytes field_size ν.reserve
      ++ (bytes field_size ν.taken
      ++ (bytes field_size (length ν.records) ++ (newest_bytes ν.newest 0 parts ++ records_area ν.records))))

-- ---- read

unfoldable pub record_count : List ℕ → ℕ
record_count state = number_at state record_count_start field_size

-- the number in a part's place
unfoldable pub newest_number : List ℕ → ℕ → ℕ
newest_number state part = number_at state (newest_start part) field_size

unfoldable pub newest_in : List ℕ → ℕ → Option ℕ
newest_in state part = elim (leb part last_part) [ true ↦ block_named (newest_number state part) | false ↦ None ]

unfoldable pub record_in : List ℕ → ℕ → Record
record_in state i = record_at state (record_start i)

-- so many records, from one on
unfoldable pub records_in : List ℕ → ℕ → ℕ → List Record
records_in state from zero = []
records_in state from (suc n) = record_in state from ∷ records_in state (from + 1) n

unfoldable pub versions_in : List ℕ → Versions
versions_in state =
    versions_of (number_at state lock_start field_size) (newest_in state) (records_in state 0 (record_count state))
    (number_at state reserve_start field_size) (number_at state taken_start field_size)

-- ---- what a start and calls can have left, as far as the bytes tell by themselves

module _ (γ : Geometry) where
  -- a data block of the largest box
  abbrev pub is_block : ℕ → Bool
  is_block a = ltb a (data_blocks γ γ.most_groups)

  -- "a newest block .. where there can be none"
  abbrev pub is_newest : ℕ → Bool
  is_newest n = eqb n no_block || is_block n

  -- "or a record"
  abbrev pub is_record : Record → Bool
  is_record x = leb x.part last_part && is_block x.block

  unfoldable pub newests_fit : List ℕ → Bool
  newests_fit state = all (blocks_from 0 parts) (λ part. is_newest (newest_number state part))

  unfoldable pub records_fit : List ℕ → Bool
  records_fit state = all (records_in state 0 (record_count state)) is_record

  -- the places of the records that are not there
  unfoldable pub rest_unused : List ℕ → Bool
  rest_unused state =
      let size = record_size * (most_records γ - record_count state) in
      equal (part state (record_start (record_count state)) size) (repeated size unused)

  unfoldable pub is_laid_out : List ℕ → Bool
  is_laid_out state = eqb (length state) (state_size γ) && (newests_fit state && (records_fit state && rest_unused state))

  -- question 1 of the state
  unfoldable pub is_valid : List ℕ → Bool
  is_valid state = is_laid_out state && is_sound γ (versions_in state)
