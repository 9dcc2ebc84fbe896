-- Signed numbers of 64 bits, in two's complement, as the logic defines it: n is n, and -1 - n is 2 ^ 64 - 1 - n.
-- Assumes nothing: these are definitions.
use Rattle.std.specs.Prelude.{ℕ, ℤ}
use Rattle.std.specs.Int.{w64}
use Rattle.std.proofs.Common.{of_z, to_z}

-- the number below 2 ^ 64 that has the bits of z
abbrev pub twos : ℤ → ℕ
twos z = of_z w64 z

-- the signed number that has the bits of n
abbrev pub signed : ℕ → ℤ
signed n = to_z w64 n
