-- What a forecast takes for granted. Assumes nothing: these are definitions.
use Rattle.std.specs.Prelude.{◌≡◌, true, ℕ, ◌≤◌, ◌<◌, length, Option, Some}
use Rattle.lockpage.specs.Geometry.{Geometry}
use Rattle.lockpage.specs.declared.Update.{Update}
use Rattle.lockpage.specs.declared.Update.TheVariants.{Unfreeze}
use Rattle.lockpage.specs.Update.{latest_time, updated, within_limit}
use Rattle.addressing.specs.Map.{data_blocks, group_of}
use Rattle.disk.specs.Disk.{HasGroup}
use Rattle.memory.specs.Layout.{memory_size}
use Rattle.memory.specs.Memory.{last_time, groups}
use Rattle.machine.specs.Command.{Box}
use Rattle.machine.specs.Tag.{current_entry}
use Rattle.machine.specs.Claims.{ValidBox}
use Rattle.versions_machine.specs.Versions.{is_lock}
use Rattle.versions_machine.specs.Allocation.{is_available}

-- γ is the box's geometry
module _ (γ : Geometry) where
  -- the put's own questions have yes, and its block is one that can be taken
  pub record ForecastReady (s : Box) (block now lock reserve : ℕ) : Type 0 where
    pub valid : ValidBox γ s
    pub later : last_time γ s.memory ≤ now
    pub early : now ≤ latest_time
    pub lock_fits : is_lock lock ≡ true
    pub range : block < data_blocks γ (groups γ s.memory)
    pub available : is_available γ s now reserve block ≡ true

  -- block a is one of the box's, and if it is the one that u changes, the word stored is within its limit
  pub record EntryReady (s : Box) (u : Update) (block : Option ℕ) (now a : ℕ) : Type 0 where
    pub memory_size_is : length s.memory ≡ memory_size γ
    pub group : HasGroup γ s.disk (group_of γ a)
    pub early : now ≤ latest_time
    pub within : block ≡ Some a → within_limit (updated u now (current_entry γ s a)) ≡ true

  -- what the second command's questions ask for
  pub record UnfreezeReady (s : Box) (now lock : ℕ) : Type 0 where
    pub valid : ValidBox γ s
    pub early : now ≤ latest_time
    pub lock_fits : is_lock lock ≡ true

  -- what the third's do: the reserve is not the block written, and if it is the one unfrozen, its expiry was within its limit
  pub record ReserveReady (s : Box) (block now : ℕ) (replaced : Option ℕ) (reserve : ℕ) : Type 0 where
    pub valid : ValidBox γ s
    pub early : now ≤ latest_time
    pub other : block ≡ reserve → ⊥
    pub within : replaced ≡ Some reserve → within_limit (updated Unfreeze now (current_entry γ s reserve)) ≡ true
