-- What holds where a changed page is held or put on the disk, since the questions have seen to it. Assumes nothing: these are definitions.
use Rattle.std.specs.Prelude.{◌≡◌, List, ℕ, ◌<◌, length}
use Rattle.lockpage.specs.Geometry.{Geometry}
use Rattle.lockpage.specs.Size.{page_size}
use Rattle.memory.specs.Memory.{count, groups}
use Rattle.validity.specs.Valid.{count_limit}
use Rattle.machine.specs.Command.{Box}
use Rattle.machine.specs.Claims.{ValidBox}

-- γ is the box's geometry
module _ (γ : Geometry) where
  -- group g's changed page may be held or put on the disk: question 8
  pub record HoldReady (s : Box) (g : ℕ) (page : List ℕ) : Type 0 where
    pub box : ValidBox γ s
    pub group : g < groups γ s.memory
    pub unexhausted : count s.memory g < count_limit
    pub page_size_is : length page ≡ page_size γ
