-- What the log on the disk tells, for document 02, Q-6: its blocks, chained from the first, and the records not yet stored say of each part
-- what the store does; and the reserve is free for its next block. Each claim is a type; its proof has the claim's name in
-- proofs/Theorems.antt.
use Rattle.std.specs.Prelude.{◌≡◌, List, [], ◌∷◌, ◌++◌, ℕ, ◌+◌, ◌≤◌, ◌<◌, length, Option, Some, None}
use Rattle.lockpage.specs.Geometry.{Geometry}
use Rattle.lockpage.specs.Entry.{entry, stamp_of, frozen_flag}
use Rattle.lockpage.specs.State.{state}
use Rattle.lockpage.specs.declared.State.TheVariants.{Free}
use Rattle.addressing.specs.Map.{data_blocks, physical}
use Rattle.disk.specs.Disk.{block as diskBlock}
use Rattle.memory.specs.Memory.{last_time, groups}
use Rattle.machine.specs.Command.{Box}
use Rattle.machine.specs.Tag.{current_entry}
use Rattle.versions_machine.specs.Versions.{Range, Record, replaced_by}
use Rattle.versions_machine.specs.Log.{records_per_block, log_block}
use Rattle.versions_machine.specs.Call.{last_part}
use Rattle.versions_machine.specs.Run.{Call, Site, start_site, calls, Throughout}
use Rattle.versions_machine.specs.Claims.{StoreAlone}
use Rattle.versions_machine.specs.After.{InBox}

-- what was written into a block: the content, under which lock, and when
pub record Locked : Type 0 where
  pub content : List ℕ
  pub lock : ℕ
  pub time : ℕ

abbrev pub locked_of : List ℕ → ℕ → ℕ → Locked
locked_of content lock time = record { content = content; lock = lock; time = time }

-- a log block: where it lies, its records, and when it was written
pub record Link : Type 0 where
  pub block : ℕ
  pub records : List Record
  pub time : ℕ

abbrev pub link_of : ℕ → List Record → ℕ → Link
link_of block records time = record { block = block; records = records; time = time }

-- all records of some log blocks, in order
abbrev pub records_of : List Link → List Record
records_of [] = []
records_of (l ∷ ls) = l.records ++ records_of ls

-- the first of them, or where the next is to go
abbrev pub first_of : List Link → ℕ → ℕ
first_of [] end = end
first_of (l ∷ ls) end = l.block

-- the times of write don't fall along them, from one time to another
abbrev pub Ascending : ℕ → List Link → ℕ → Type 0
Ascending from [] to = from ≤ to
Ascending from (l ∷ ls) to = (from ≤ l.time) × Ascending l.time ls to

-- block b is none of them
abbrev pub NotIn : ℕ → List Link → Type 0
NotIn b [] = Unit
NotIn b (l ∷ ls) = (b ≡ l.block → ⊥) × NotIn b ls

-- none of them comes twice
abbrev pub Distinct : List Link → Type 0
Distinct [] = Unit
Distinct (l ∷ ls) = NotIn l.block ls × Distinct ls

-- P holds of each of a list
abbrev pub Each : {A : Type 0} → (A → Type 0) → List A → Type 0
Each P [] = Unit
Each P (x ∷ xs) = P x × Each P xs

-- what records say of each part: the last one counts
abbrev pub told : (ℕ → Option ℕ) → List Record → ℕ → Option ℕ
told newest [] = newest
told newest (x ∷ xs) = told (replaced_by newest x.part x.block) xs

module _ (γ : Geometry) where
  -- a block of the box, as it was written: its lock is as it was, frozen, and so are its time of write and its content
  pub record Holds (s : Box) (b : ℕ) (w : Locked) : Type 0 where
    pub range : b < data_blocks γ (groups γ s.memory)
    pub entry : current_entry γ s b ≡ entry w.lock (stamp_of w.time frozen_flag)
    pub stored : diskBlock γ s.disk (physical γ b) ≡ w.content

  -- a record of an accepted put, in a box with so many groups
  pub record Recorded (groups : ℕ) (x : Record) : Type 0 where
    pub part : x.part ≤ last_part
    pub block : x.block < data_blocks γ groups

  -- a log block has such records, and no more than it has room for
  pub record LinkFits (groups : ℕ) (l : Link) : Type 0 where
    pub few : length l.records ≤ records_per_block γ
    pub records : Each (Recorded groups) l.records

  -- a version is as it was put, under a lock and by a time
  pub record VersionHeld (s : Box) (b lock by : ℕ) : Type 0 where
    pub written : Locked
    pub holds : Holds s b written
    pub under : written.lock ≡ lock
    pub early : written.time ≤ by

  -- each is frozen under the lock, and has its records and a pointer to the next; the last points to the end
  abbrev pub Chained : ℕ → Box → List Link → ℕ → Type 0
  Chained lock s [] end = Unit
  Chained lock s (l ∷ ls) end =
      Holds s l.block (locked_of (log_block γ l.records (first_of ls end)) lock l.time) × Chained lock s ls end

  module _ (ρ : Range) where
    -- the log of a store with lock R, now
    pub record LogTells (R : ℕ) (x : Site) : Type 0 where
      pub lock : x.versions.lock ≡ R
      -- its blocks, from the range's first to the reserve, where the next is to go
      pub links : List Link
      pub begins : first_of links x.versions.reserve ≡ ρ.first
      pub chained : Chained R x.box links x.versions.reserve
      -- written one after the other, by the last time
      pub ascending : Ascending 0 links (last_time γ x.box.memory)
      pub distinct : Distinct links
      pub fit : Each (LinkFits (groups γ x.box.memory)) links
      -- with the records not yet stored they say what the store does
      pub tells : (part : ℕ) → x.versions.newest part ≡ told (λ p. None) (records_of links ++ x.versions.records) part
      -- and each newest version is as it was put, under R, by the last time
      pub held : (part b : ℕ) → x.versions.newest part ≡ Some b → VersionHeld x.box b R (last_time γ x.box.memory)
      pub parts : (part b : ℕ) → x.versions.newest part ≡ Some b → part ≤ last_part

    -- where the store alone commands the box, from its start
    unfoldable pub LogIsWhole : Type 0
    LogIsWhole = (lock : ℕ) (s : Box) (cs : List Call) → Throughout γ ρ StoreAlone (start_site γ ρ lock s) cs
        → LogTells lock (calls γ ρ (start_site γ ρ lock s) cs)

    -- the reserve is a block of the range, and free
    pub record ReserveFree (x : Site) : Type 0 where
      pub above : ρ.first ≤ x.versions.reserve
      pub below : x.versions.reserve < ρ.first + ρ.number
      pub free : state (last_time γ x.box.memory) (current_entry γ x.box x.versions.reserve) ≡ Free

    -- where it is, it stays so from call to call, and waits for the next log block
    unfoldable pub ReserveStaysFree : Type 0
    ReserveStaysFree = (x : Site) (cs : List Call) → InBox γ ρ x.box → Throughout γ ρ StoreAlone x cs → ReserveFree x
        → ReserveFree (calls γ ρ x cs)
