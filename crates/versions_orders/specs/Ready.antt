-- What holds where an order is given. Assumes nothing: these are definitions.
use Rattle.std.specs.Prelude.{◌≡◌, List, ℕ, ◌≤◌, ◌<◌, length}
use Rattle.lockpage.specs.Geometry.{Geometry}
use Rattle.lockpage.specs.Update.{latest_time}
use Rattle.addressing.specs.Map.{data_blocks}
use Rattle.memory.specs.Memory.{last_time, groups}
use Rattle.machine.specs.Command.{Box, proof_size}
use Rattle.machine.specs.Claims.{ValidBox}

-- γ is the box's geometry
module _ (γ : Geometry) where
  -- questions 1, 2 and 4 have yes
  pub record OrderReady (s : Box) (now : ℕ) : Type 0 where
    pub valid : ValidBox γ s
    pub later : last_time γ s.memory ≤ now
    pub early : now ≤ latest_time

  -- a valid box, one of its blocks, and a buffer for a page and its tag
  pub record BringReady (s : Box) (a : ℕ) (proof : List ℕ) : Type 0 where
    pub box : ValidBox γ s
    pub block : a < data_blocks γ (groups γ s.memory)
    pub proof_size_is : length proof ≡ proof_size γ
