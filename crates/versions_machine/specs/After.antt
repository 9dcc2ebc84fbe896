-- What an accepted put and an accepted store on demand do, beside the promise. Each claim is a type; its proof has the claim's name in
-- proofs/Theorems.antt.
use Rattle.std.specs.Prelude.{◌≡◌, Bool, true, false, List, ℕ, ◌+◌, ◌≤◌, length}
use Rattle.lockpage.specs.Geometry.{Geometry}
use Rattle.lockpage.specs.State.{state}
use Rattle.lockpage.specs.declared.State.TheVariants.{Free}
use Rattle.addressing.specs.Map.{data_blocks, physical}
use Rattle.disk.specs.Disk.{block}
use Rattle.memory.specs.Memory.{last_time, groups}
use Rattle.machine.specs.Command.{Box}
use Rattle.machine.specs.Tag.{current_entry}
use Rattle.machine.specs.Claims.{ValidBox}
use Rattle.versions_machine.specs.Versions.{Range, Versions, entered}
use Rattle.versions_machine.specs.Log.{is_full, is_sound}
use Rattle.versions_machine.specs.Allocation.{is_available, next_for}
use Rattle.versions_machine.specs.Plan.{carried_out, version_orders}
use Rattle.versions_machine.specs.Call.{Result, put, flush}

module _ (γ : Geometry) where
  -- the range is of the box
  abbrev pub InBox : Range → Box → Type 0
  InBox ρ s = ρ.first + ρ.number ≤ data_blocks γ (groups γ s.memory)

  -- data block a has the same content in both boxes
  abbrev pub SameContent : Box → Box → ℕ → Type 0
  SameContent s t a = block γ t.disk (physical γ a) ≡ block γ s.disk (physical γ a)

  -- state and box are such as the next call's questions 1, 2 and 4 ask for, and memory and disk are as long as they were
  pub record StillValid (s : Box) (now : ℕ) (r : Result) : Type 0 where
    pub sound : is_sound γ r.versions ≡ true
    pub valid : ValidBox γ r.box
    pub time : last_time γ r.box.memory ≡ now
    pub memory_size_is : length r.box.memory ≡ length s.memory
    pub disk_size_is : length r.box.disk ≡ length s.disk

module _ (γ : Geometry) (ρ : Range) where
  -- whether a put is the one whose record fills a log block
  abbrev pub fills : Versions → Box → ℕ → ℕ → Bool
  fills ν s part now = is_full γ (entered ν part (next_for γ ρ s now ν))

  -- the box that the version's own commands left
  abbrev pub between : Versions → Box → ℕ → ℕ → List ℕ → Box
  between ν s part now content = (carried_out γ s (version_orders γ ν part (next_for γ ρ s now ν) now content)).box

  pub record PutDoes (ν : Versions) (s : Box) (part now : ℕ) (content : List ℕ) (r : Result) : Type 0 where
    -- "the next free block .., never the reserved one": the block answered was free, and isn't the reserve
    pub answered : r.block ≡ next_for γ ρ s now ν
    pub was_available : is_available γ s now ν.reserve r.block ≡ true
    -- and so was the next reserve, where a log block is stored; otherwise the reserve stays
    pub next_reserve : fills ν s part now ≡ true → InBox γ ρ s → is_available γ (between ν s part now content) now ν.reserve r.versions.reserve ≡ true
    pub same_reserve : fills ν s part now ≡ false → r.versions.reserve ≡ ν.reserve
    -- the reserve was free when its log block was stored
    pub log_free : fills ν s part now ≡ true → state now (current_entry γ (between ν s part now content) ν.reserve) ≡ Free
    -- no block is written but the one answered, and the reserve by its log block
    pub untouched : (a : ℕ) → (a ≡ r.block → ⊥) → (fills ν s part now ≡ true → a ≡ ν.reserve → ⊥) → SameContent γ s r.box a
    pub still : StillValid γ s now r

  unfoldable pub AcceptedPutDoes : Type 0
  AcceptedPutDoes = (ν : Versions) (s : Box) (part now : ℕ) (content : List ℕ) → (put γ ρ ν s part now content).number ≡ 0
      → PutDoes ν s part now content (put γ ρ ν s part now content)

  -- a store on demand that has records to store
  pub record FlushDoes (ν : Versions) (s : Box) (now : ℕ) (r : Result) : Type 0 where
    pub next_reserve : is_available γ s now ν.reserve r.versions.reserve ≡ true
    pub log_free : state now (current_entry γ s ν.reserve) ≡ Free
    pub untouched : (a : ℕ) → (a ≡ ν.reserve → ⊥) → SameContent γ s r.box a
    pub still : StillValid γ s now r

  unfoldable pub AcceptedFlushDoes : Type 0
  AcceptedFlushDoes = (ν : Versions) (s : Box) (now : ℕ) → (flush γ ρ ν s now).number ≡ 0 → (length ν.records ≡ 0 → ⊥)
      → FlushDoes ν s now (flush γ ρ ν s now)
