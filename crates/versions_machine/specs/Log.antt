-- A log block's bytes, after document 02, Q-3: written, and read back for Q-6. Assumes nothing: these are definitions.
use Rattle.std.specs.Prelude.{Bool, ◌&&◌, List, [], ◌∷◌, ◌++◌, ℕ, ◌+◌, ◌-◌, ◌*◌, length, eqb, ltb}
use Rattle.octets.specs.Part.{repeated}
use Rattle.octets.specs.Number.{bytes, number_at}
use Rattle.lockpage.specs.Geometry.{Geometry}
use Rattle.machine.specs.Query.{listed}
use Rattle.versions_machine.specs.Versions.{Record, record_of, Versions, is_lock}

-- "part number, block, 4 bytes each"
abbrev pub record_field : ℕ
record_field = 4

abbrev pub record_size : ℕ
record_size = record_field + record_field

unfoldable pub record_bytes : Record → List ℕ
record_bytes x = bytes record_field x.part ++ bytes record_field x.block

unfoldable pub records_bytes : List Record → List ℕ
records_bytes [] = []
records_bytes (x ∷ xs) = record_bytes x ++ records_bytes xs

-- the record whose bytes stand from a place on
abbrev pub record_at : List ℕ → ℕ → Record
record_at l at = record_of (number_at l at record_field) (number_at l (at + record_field) record_field)

-- "an 8-byte pointer"
abbrev pub pointer_size : ℕ
pointer_size = 8

-- "(unused ones FF)"
abbrev pub unused : ℕ
unused = 255

module _ (γ : Geometry) where
  -- "Sixty-three records"; Q-12: "a log block holding one record less than the entries"
  abbrev pub records_per_block : ℕ
  records_per_block = γ.entries - 1

  -- "Sixty-three records (unused ones FF) and an 8-byte pointer to the next block .. make a log block"
  unfoldable pub log_block : List Record → ℕ → List ℕ
  log_block xs pointer =
      records_bytes xs ++ (repeated (record_size * (records_per_block - length xs)) unused ++ bytes pointer_size pointer)

  -- the records of a log block's bytes, and its pointer: any block's bytes have some
  unfoldable pub records_read : List ℕ → List Record
  records_read l = listed (λ i. record_at l (record_size * i)) 0 records_per_block

  unfoldable pub pointer_read : List ℕ → ℕ
  pointer_read l = number_at l (record_size * records_per_block) pointer_size

  -- "stored .. when full"
  unfoldable pub is_full : Versions → Bool
  is_full ν = eqb (length ν.records) records_per_block

  -- whether a start and calls can have left it: a lock that the start lets pass, and room for a record
  unfoldable pub is_sound : Versions → Bool
  is_sound ν = is_lock ν.lock && ltb (length ν.records) records_per_block
