-- What a log block to be filled asks for. Assumes nothing: these are definitions.
use Rattle.std.specs.Prelude.{◌≡◌, true, List, ℕ, ◌+◌, length}
use Rattle.lockpage.specs.Geometry.{Geometry}
use Rattle.lockpage.specs.Size.{block_size}
use Rattle.versions_machine.specs.Log.{records_per_block}
use Rattle.versions_state.specs.State.{record_count, is_valid}

module _ (γ : Geometry) where
  -- a log block is to be filled
  pub record FillReady (state out : List ℕ) : Type 0 where
    pub valid : is_valid γ state ≡ true
    pub out_size : length out ≡ block_size γ

  -- by the record that it has room for
  pub record FullReady (state out : List ℕ) : Type 0 where
    pub log : FillReady state out
    pub last : record_count state + 1 ≡ records_per_block γ
