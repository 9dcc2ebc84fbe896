-- Under which locks an accepted put and an accepted store on demand leave the blocks that they change, after document 02, Q-3. Each claim
-- is a type; its proof has the claim's name in proofs/Theorems.antt.
use Rattle.std.specs.Prelude.{◌≡◌, true, List, ℕ, length, Some}
use Rattle.lockpage.specs.Geometry.{Geometry}
use Rattle.lockpage.specs.declared.Update.TheVariants.{Unfreeze}
use Rattle.lockpage.specs.Update.{updated}
use Rattle.machine.specs.Command.{Box}
use Rattle.machine.specs.Tag.{current_entry}
use Rattle.machine.specs.Claims.{ByteBox}
use Rattle.versions_machine.specs.Versions.{Range, Versions, entered}
use Rattle.versions_machine.specs.Log.{log_block}
use Rattle.versions_machine.specs.Call.{Result, put, flush}
use Rattle.versions_machine.specs.After.{fills}
use Rattle.versions_machine.specs.History.{locked_of, Holds}

module _ (γ : Geometry) (ρ : Range) where
  -- Where the store is alone, a replaced version is neither the block taken nor the reserve
  pub record PutLocks (ν : Versions) (s : Box) (part now : ℕ) (content : List ℕ) (r : Result) : Type 0 where
    -- it "puts each one-block version into a free block with a lock R": frozen under R from now on, with its content
    pub version : (ν.newest part ≡ Some r.block → ⊥) → Holds γ r.box r.block (locked_of content ν.lock now)
    -- "and then unfreezes the version it replaces"
    pub replaced : (old : ℕ) → ν.newest part ≡ Some old → (old ≡ r.block → ⊥) → (fills γ ρ ν s part now ≡ true → old ≡ ν.reserve → ⊥)
        → current_entry γ r.box old ≡ updated Unfreeze now (current_entry γ s old)
    -- the log block is "stored with lock R when full": in the reserve, with the put's record last, and a pointer to the next reserve
    pub log : fills γ ρ ν s part now ≡ true
        → Holds γ r.box ν.reserve (locked_of (log_block γ (entered ν part r.block).records r.versions.reserve) ν.lock now)

  unfoldable pub AcceptedPutLocks : Type 0
  AcceptedPutLocks = (ν : Versions) (s : Box) (part now : ℕ) (content : List ℕ) → ByteBox s → (put γ ρ ν s part now content).number ≡ 0
      → PutLocks ν s part now content (put γ ρ ν s part now content)

  -- "or on demand": the log block, with the records that there are
  unfoldable pub AcceptedFlushLocks : Type 0
  AcceptedFlushLocks = (ν : Versions) (s : Box) (now : ℕ) → (flush γ ρ ν s now).number ≡ 0 → (length ν.records ≡ 0 → ⊥)
      → Holds γ (flush γ ρ ν s now).box ν.reserve
      (locked_of (log_block γ ν.records (flush γ ρ ν s now).versions.reserve) ν.lock now)
