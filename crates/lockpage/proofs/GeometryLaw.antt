-- Document 01's box is proper, and so is the one that the code runs. Assumes nothing.
use mathlib.Core.Path.{◌≡◌, refl}
use Prim.Native.Nat.{ℕ, ◌^◌}
use native.Mathlib.Omega.{arith}
use Rattle.lockpage.specs.Geometry.{Proper, base, present}

pub base_proper : Proper base
base_proper = omega arith

pub present_proper : Proper present
present_proper = omega arith

-- the bits of an entry's index on its page: the code's INDEX_BITS
abbrev pub index_bits : ℕ
index_bits = 6

pub present_entries : present.entries ≡ 2 ^ index_bits
present_entries = refl
