-- What the functions of this crate ask for, and what a block's records make of a result. Assumes nothing: these are definitions.
use Rattle.std.specs.Prelude.{◌≡◌, Bool, ◌&&◌, not, List, ℕ, ◌/◌, ◌<◌, length, leb, Option, None}
use Rattle.lockpage.specs.Geometry.{Geometry}
use Rattle.lockpage.specs.Size.{block_size}
use Rattle.lockpage.specs.declared.Entry.{Entry}
use Rattle.lockpage.specs.Entry.{time_of_write}
use Rattle.lockpage.specs.State.{state}
use Rattle.addressing.specs.Map.{data_blocks}
use Rattle.memory.specs.Memory.{groups}
use Rattle.machine.specs.Command.{Box}
use Rattle.machine.specs.Claims.{ValidBox}
use Rattle.versions_machine.specs.Versions.{Record}
use Rattle.versions_machine.specs.Allocation.{is_free, those, whole_box}
use Rattle.versions_machine.specs.History.{told}
use Rattle.versions_state.specs.Layout.{parts}
use Rattle.versions_state.specs.State.{newest_bytes}
use Rattle.recovery_machine.specs.Recover.{result_size, counts}
use Rattle.recovery.specs.Marks.{bits_per_byte}

-- an entry says "not free and written by X"
unfoldable pub says_kept : ℕ → ℕ → Entry → Bool
says_kept point now e = not (is_free (state now e)) && leb (time_of_write e) point

module _ (γ : Geometry) where
  -- the bytes of the marks: a bit for each block of the largest box
  abbrev pub marks_size : ℕ
  marks_size = data_blocks γ γ.most_groups / bits_per_byte

  -- the end is that of a valid box
  pub record KeptReady (s : Box) (end : ℕ) : Type 0 where
    pub box : ValidBox γ s
    pub end_is : end ≡ data_blocks γ (groups γ s.memory)

  -- and a block's bytes, and the result's
  pub record TakeReady (s : Box) (end : ℕ) (content result : List ℕ) : Type 0 where
    pub kept : KeptReady s end
    pub content_size : length content ≡ block_size γ
    pub result_size_is : length result ≡ result_size

  -- a block of a valid box, and a mark for each
  pub record StepReady (s : Box) (marks : List ℕ) (block : ℕ) : Type 0 where
    pub box : ValidBox γ s
    pub marks_size_is : length marks ≡ marks_size
    pub inside : block < data_blocks γ (groups γ s.memory)

  -- a result that has no block yet
  pub record WalkReady (s : Box) (result : List ℕ) : Type 0 where
    pub box : ValidBox γ s
    pub empty : result ≡ newest_bytes (λ part. None) 0 parts

  -- the result has what these records say besides, those of them that count
  abbrev pub Takes : Box → ℕ → ℕ → List Record → List ℕ → List ℕ → Type 0
  Takes s point now xs before after = (newest : ℕ → Option ℕ) → before ≡ newest_bytes newest 0 parts
      → after ≡ newest_bytes (told newest (those (counts γ (whole_box γ (groups γ s.memory)) s point now) xs)) 0 parts
