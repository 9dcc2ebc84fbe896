-- A bit for each block. Assumes nothing: these are definitions.
use Rattle.std.specs.Prelude.{◌≡◌, Bool, ℕ, ◌*◌, ◌/◌, ◌%◌, ◌^◌, ◌<◌, length, get_or, set, eqb}
use mathlib.Core.List.{List, any}
use Rattle.std.specs.Int.Bits.{bit_or}

abbrev pub bits_per_byte : ℕ
bits_per_byte = 8

-- block a's byte, and its bit in that
abbrev pub byte_of : ℕ → ℕ
byte_of a = a / bits_per_byte

abbrev pub bit_of : ℕ → ℕ
bit_of a = a % bits_per_byte

-- whether block a is marked, and the marks with it marked
unfoldable pub is_marked : List ℕ → ℕ → Bool
is_marked marks a = eqb (get_or marks (byte_of a) 0 / 2 ^ bit_of a % 2) 1

unfoldable pub marked : List ℕ → ℕ → List ℕ
marked marks a = set marks (byte_of a) (bit_or (get_or marks (byte_of a) 0) (2 ^ bit_of a))

-- the blocks marked are these
unfoldable pub Marks : List ℕ → List ℕ → Type 0
Marks marks walked = (a : ℕ) → a < bits_per_byte * length marks → is_marked marks a ≡ any walked (eqb a)
