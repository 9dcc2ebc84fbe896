-- That a state's bytes and what the store keeps say the same, and go on to, call after call. Each claim is a type; its proof has the
-- claim's name in proofs/Theorems.antt.
use Rattle.std.specs.Prelude.{◌≡◌, true, ℕ, ◌+◌, ◌≤◌, ◌<◌, ◌^◌, Some, None}
use mathlib.Core.List.{List, all}
use Rattle.octets.specs.Part.{AreBytes}
use Rattle.lockpage.specs.Geometry.{Geometry, present}
use Rattle.machine.specs.Command.{Box}
use Rattle.versions_machine.specs.Versions.{Range, Versions}
use Rattle.versions_machine.specs.Log.{records_per_block, is_sound}
use Rattle.versions_machine.specs.Call.{last_part, flush}
use Rattle.versions_machine.specs.Run.{Call, Site, start_site, put_at, calls}
use Rattle.versions_state.specs.Layout.{field_size, state_size}
use Rattle.versions_state.specs.State.{is_block, is_record, state_bytes, versions_in, is_valid}
use Rattle.versions_bytes.specs.Call.{start_bytes, put_bytes, flush_bytes}
use Rattle.versions_bytes.specs.Run.{Buffers, buffers_of, calls_on}

-- the header's number
unfoldable pub PresentStateSize : Type 0
PresentStateSize = state_size present ≡ 1536

module _ (γ : Geometry) where
  -- what has room in its field, and is such as a start and calls leave it
  pub record Fits (ν : Versions) : Type 0 where
    pub sound : is_sound γ ν ≡ true
    pub newest : (part block : ℕ) → ν.newest part ≡ Some block → is_block γ block ≡ true
    pub no_more : (part : ℕ) → last_part < part → ν.newest part ≡ None
    pub records : all ν.records (is_record γ) ≡ true
    pub reserve : ν.reserve < 256 ^ field_size
    pub taken : ν.taken < 256 ^ field_size

  -- the bytes of a store are valid, and what is read from them is that store
  pub record HandedOn (ν : Versions) : Type 0 where
    pub valid : is_valid γ (state_bytes γ ν) ≡ true
    pub same : versions_in (state_bytes γ ν) ≡ ν

  unfoldable pub FittingIsHandedOn : Type 0
  FittingIsHandedOn = (ν : Versions) → Fits ν → HandedOn ν

  -- valid bytes are those of the store that is read from them, and it fits
  pub record Read (state : List ℕ) : Type 0 where
    pub same : state_bytes γ (versions_in state) ≡ state
    pub fits : Fits (versions_in state)

  unfoldable pub ValidIsRead : Type 0
  ValidIsRead = (state : List ℕ) → AreBytes state → is_valid γ state ≡ true → Read state

-- ---- call after call

-- the numbers of the range's blocks have four bytes, and none is FF FF FF FF
abbrev pub HasNumbers : Range → Type 0
HasNumbers ρ = ρ.first + ρ.number < 256 ^ field_size

module _ (γ : Geometry) (ρ : Range) where
  -- bytes and box are those of the store, and each next call answers as the store does
  pub record Follows (x : Buffers) (y : Site) : Type 0 where
    pub valid : is_valid γ x.state ≡ true
    pub same : versions_in x.state ≡ y.versions
    pub box : x.box ≡ y.box
    pub put_number : (part now : ℕ) (content : List ℕ)
        → (put_bytes γ ρ x.state x.box part now content).number ≡ (put_at γ ρ y part now content).number
    pub put_block : (part now : ℕ) (content : List ℕ)
        → (put_bytes γ ρ x.state x.box part now content).block ≡ (put_at γ ρ y part now content).block
    pub flush_number : (now : ℕ) → (flush_bytes γ ρ x.state x.box now).number ≡ (flush γ ρ y.versions y.box now).number

  -- "its state handed on from its start": whatever the buffer held, the box holds, and the calls are. A log block has room for a record
  unfoldable pub BytesFollow : Type 0
  BytesFollow = HasNumbers ρ → 1 ≤ records_per_block γ → (buffer : List ℕ) (lock : ℕ) (s : Box) (cs : List Call) → (start_bytes γ ρ.first buffer lock).number ≡ 0
      → Follows (calls_on γ ρ (buffers_of (start_bytes γ ρ.first buffer lock).state s) cs) (calls γ ρ (start_site γ ρ lock s) cs)
