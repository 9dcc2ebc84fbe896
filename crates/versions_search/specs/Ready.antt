-- An interval of blocks that is searched, and what a search for two blocks answers. Assumes nothing: these are definitions.
use Rattle.std.specs.Prelude.{Result, Ok, Err, true, false, ℕ, ◌+◌, ◌≤◌, ◌<◌}
use Rattle.lockpage.specs.Geometry.{Geometry}
use Rattle.addressing.specs.Map.{data_blocks}
use Rattle.memory.specs.Memory.{groups}
use Rattle.machine.specs.Command.{Box}
use Rattle.machine.specs.Claims.{ValidBox}
use Rattle.versions_machine.specs.Versions.{Range}
use Rattle.versions_machine.specs.Allocation.{next_available, two_available}

-- γ is the box's geometry
module _ (γ : Geometry) where
  -- a valid box, and an interval of its blocks
  pub record SearchReady (s : Box) (from end : ℕ) : Type 0 where
    pub box : ValidBox γ s
    pub ordered : from ≤ end
    pub within : end ≤ data_blocks γ (groups γ s.memory)

  -- the block that is allocated next: Ok where question 14 has yes, and Err where it has no
  abbrev pub next_of_two : Range → Box → ℕ → ℕ → ℕ → Result ℕ ℕ
  next_of_two ρ s now reserve taken =
      elim (two_available γ ρ s now reserve)
      [ true ↦ Ok (next_available γ ρ s now reserve taken) | false ↦ Err (next_available γ ρ s now reserve taken) ]

-- r is the first of the blocks that is behind the one last taken, or the end where none is
pub record Behind (taken end r : ℕ) : Type 0 where
  pub within : r ≤ end
  pub least : r ≤ taken + 1
  pub behind : r < end → taken < r
