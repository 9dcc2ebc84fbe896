-- A block of a valid box has a count of its group's. Assumes nothing.
use mathlib.Core.Path.{◌≡◌}
use mathlib.Core.Bool.{true}
use mathlib.Core.List.{List}
use Prim.Native.Nat.{ℕ, ◌<◌}
use native.Mathlib.Omega.{arith}
use Rattle.lockpage.specs.Geometry.{Geometry, Proper}
use Rattle.addressing.specs.Map.{data_blocks, group_of}
use Rattle.addressing.proofs.MapLaw.{group_of_below}
use Rattle.memory.specs.Memory.{groups}
use Rattle.memory.specs.Ready.{HasCount}
use Rattle.validity.specs.Valid.{valid}
use Rattle.validity.proofs.ValidLaw.{facts}

-- γ is any proper geometry
module _ {γ : Geometry} (σ : Proper γ) (m : List ℕ) (a : ℕ) (v : valid γ m ≡ true) (h : a < data_blocks γ (groups γ m)) where
  pub has_count : HasCount γ m (group_of γ a)
  has_count = record { size = (facts σ m v).size; group = omega (arith, group_of_below σ (groups γ m) a h, (facts σ m v).most) }
