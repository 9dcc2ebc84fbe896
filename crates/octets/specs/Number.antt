-- Numbers of several bytes, little-endian: digits base 256, the least first. The width is a number of bytes.
-- Assumes nothing: these are definitions.
use Rattle.std.specs.Prelude.{ℕ, zero, suc, ◌+◌, ◌*◌, ◌/◌, ◌%◌, List, [], ◌∷◌}
use Rattle.octets.specs.Part.{part, replaced}

-- the number whose digits are given
unfoldable pub number : List ℕ → ℕ
number [] = 0
number (b ∷ bs) = b + 256 * number bs

-- the first k digits of n
unfoldable pub bytes : ℕ → ℕ → List ℕ
bytes zero n = []
bytes (suc k) n = n % 256 ∷ bytes k (n / 256)

-- the number in the k bytes of l from place at on
unfoldable pub number_at : List ℕ → ℕ → ℕ → ℕ
number_at l at k = number (part l at k)

-- l with n in the k bytes from place at on
unfoldable pub with_number : List ℕ → ℕ → ℕ → ℕ → List ℕ
with_number l at k n = replaced l at (bytes k n)
