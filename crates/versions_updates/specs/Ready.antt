-- What a version entered asks for. Assumes nothing: these are definitions.
use Rattle.std.specs.Prelude.{◌≡◌, true, List, ℕ, ◌+◌, ◌≤◌, ◌<◌}
use Rattle.lockpage.specs.Geometry.{Geometry}
use Rattle.versions_machine.specs.Log.{records_per_block}
use Rattle.versions_machine.specs.Call.{last_part}
use Rattle.versions_state.specs.State.{record_count, is_valid}

module _ (γ : Geometry) where
  -- a record can be entered, and is not the one that fills a log block
  pub record EnterReady (state : List ℕ) (part : ℕ) : Type 0 where
    pub valid : is_valid γ state ≡ true
    pub is_part : part ≤ last_part
    pub more : record_count state + 1 < records_per_block γ
