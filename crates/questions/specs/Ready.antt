-- What questions 7 to 10 take for granted: questions 1, 4, 5 and 6 have yes. Assumes nothing: these are definitions.
use Rattle.std.specs.Prelude.{◌≡◌, List, ℕ, ◌≤◌, length}
use Rattle.lockpage.specs.Geometry.{Geometry}
use Rattle.lockpage.specs.Update.{latest_time}
use Rattle.addressing.specs.Map.{group_of}
use Rattle.memory.specs.Ready.{HasCount}
use Rattle.machine.specs.Command.{proof_size}

-- γ is the box's geometry
module _ (γ : Geometry) where
  -- of an update of block a
  pub record UpdateReady (m : List ℕ) (a now : ℕ) (proof : List ℕ) : Type 0 where
    pub count : HasCount γ m (group_of γ a)
    pub time : now ≤ latest_time
    pub proof_size_is : length proof ≡ proof_size γ
