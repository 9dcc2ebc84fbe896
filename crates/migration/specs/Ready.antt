-- What laying out asks for. Assumes nothing: these are definitions.
use Rattle.std.specs.Prelude.{◌≡◌, List, ℕ, length}
use Rattle.octets.specs.Part.{repeated}
use Rattle.lockpage.specs.Geometry.{base, present}
use Rattle.memory.specs.Layout.{memory_size}

-- an old memory, and a buffer of zeros for a present one
pub record LayOutReady (old new : List ℕ) : Type 0 where
  pub old_size : length old ≡ memory_size base
  pub new_zeros : new ≡ repeated (memory_size present) 0
