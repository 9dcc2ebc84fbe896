-- An entry of a lock page, after document 01, "Disk": "a 4-byte word, then a 4-byte stamp, which is 2 × time of write + f".
-- Assumes nothing: these are definitions.
use Rattle.std.specs.Prelude.{ℕ, ◌+◌, ◌*◌, ◌/◌, ◌%◌, ◌^◌, ◌<◌, Bool, List, ◌++◌, eqb}
use Rattle.octets.specs.Number.{bytes, number_at}
use Rattle.lockpage.specs.declared.Entry.{Entry}
use Rattle.lockpage.specs.Size.{word_size}

abbrev pub entry : ℕ → ℕ → Entry
entry word stamp = record { word = word; stamp = stamp }

-- to eight bytes, and from them
unfoldable pub entry_bytes : Entry → List ℕ
entry_bytes e = bytes word_size e.word ++ bytes word_size e.stamp

unfoldable pub entry_of : List ℕ → Entry
entry_of l = entry (number_at l 0 word_size) (number_at l word_size word_size)

-- the word and the stamp have 4 bytes each
pub record EntryFits (e : Entry) : Type 0 where
  pub word : e.word < 256 ^ word_size
  pub stamp : e.stamp < 256 ^ word_size

-- ---- the stamp: "2 × time of write + f"

abbrev pub stamp_of : ℕ → ℕ → ℕ
stamp_of time f = 2 * time + f

unfoldable pub time_of_write : Entry → ℕ
time_of_write e = e.stamp / 2

unfoldable pub flag : ℕ → ℕ
flag stamp = stamp % 2

-- f of a frozen block, and of one that has an expiry
abbrev pub frozen_flag : ℕ
frozen_flag = 0

abbrev pub unfrozen_flag : ℕ
unfrozen_flag = 1

-- "f = 0: frozen, the word is the lock in seconds"
unfoldable pub is_frozen : ℕ → Bool
is_frozen stamp = eqb (flag stamp) frozen_flag
