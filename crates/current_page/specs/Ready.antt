-- What holds where a group's current page is fetched. Assumes nothing: it is a definition.
use Rattle.std.specs.Prelude.{◌≡◌, List, ℕ, length}
use Rattle.lockpage.specs.Geometry.{Geometry}
use Rattle.lockpage.specs.Size.{page_size}
use Rattle.disk.specs.Disk.{HasGroup}
use Rattle.memory.specs.Layout.{memory_size}
use Rattle.machine.specs.Command.{Box}

-- γ is the box's geometry
module _ (γ : Geometry) where
  -- a memory, a disk with the group, and a buffer for a page
  pub record CurrentReady (s : Box) (g : ℕ) (out : List ℕ) : Type 0 where
    pub memory_size_is : length s.memory ≡ memory_size γ
    pub group : HasGroup γ s.disk g
    pub page_size_is : length out ≡ page_size γ
