-- What a reader wants to know of the version store. Each claim is a type; its proof has the claim's name in proofs/Theorems.antt.
use Rattle.std.specs.Prelude.{◌≡◌, List, [], ◌∷◌, ◌++◌, ℕ, ◌+◌, ◌≤◌, length, Some, None}
use Rattle.lockpage.specs.Geometry.{Geometry}
use Rattle.lockpage.specs.Size.{block_size}
use Rattle.lockpage.specs.Update.{latest_time}
use Rattle.addressing.specs.Map.{data_blocks, physical}
use Rattle.disk.specs.Disk.{block}
use Rattle.machine.specs.declared.Kind.{Kind}
use Rattle.machine.specs.declared.Kind.TheVariants.{Read, Entry, Page, Change, Sync, Restart, NewSalt, Identify, Unknown}
use Rattle.machine.specs.Command.{Box, Command, kind_of}
use Rattle.machine.specs.Step.{Accepted, step, padded}
use Rattle.machine.specs.Format.{format}
use Rattle.machine.specs.Run.{Event, Given, Queried}
use Rattle.machine.specs.Claims.{ByteBox}
use Rattle.machine.specs.Question.{Question, questions, first_no, AllYes}
use Rattle.machine.specs.Tag.{current_entry}
use Rattle.memory.specs.Memory.{count, groups}
use Rattle.versions_machine.specs.Versions.{Range, Record, Versions, versions_of, start, start_questions, entered}
use Rattle.versions_machine.specs.Log.{records_per_block}
use Rattle.versions_machine.specs.Allocation.{next_for, first_block, whole_box}
use Rattle.versions_machine.specs.Plan.{Order, given, due_plan, version_orders, put_plan}
use Rattle.versions_machine.specs.Foresight.{foreseen}
use Rattle.versions_machine.specs.Call.{Result, last_part, put, put_questions, flush, flush_questions, flush_plan}
use Rattle.versions_machine.specs.Run.{Call, PutPart, Flush, Between, Site, start_site, put_at, calls, Throughout}

-- ---- the premise: "Where the keeper alone commands the box, .. without a restart"

-- kinds 1, 2, 3, 7, 9 and 10, and any that is not known
abbrev pub Quiet : Kind → Type 0
Quiet Read = Unit
Quiet Entry = Unit
Quiet Page = Unit
Quiet (Change u) = ⊥
Quiet Sync = Unit
Quiet Restart = ⊥
Quiet NewSalt = Unit
Quiet Identify = Unit
Quiet Unknown = Unit

-- a command of one of these kinds, or a query
abbrev pub QuietEvent : Event → Type 0
QuietEvent (Given c) = Quiet (kind_of c)
QuietEvent (Queried q) = Unit

-- between the store's calls only these happen
abbrev pub StoreAlone : Site → Call → Type 0
StoreAlone x (PutPart part now content) = Unit
StoreAlone x (Flush now) = Unit
StoreAlone x (Between e) = QuietEvent e

-- a call "alters nothing"
pub record Unaltered (ν : Versions) (s : Box) (r : Result) : Type 0 where
  pub block : r.block ≡ 0
  pub versions : r.versions ≡ ν
  pub box : r.box ≡ s

module _ (γ : Geometry) where
  -- a block "reads back .. as it was put": by the disk's bytes, and by what kind 1 answers
  pub record ReadsBack (s : Box) (b : ℕ) (content : List ℕ) : Type 0 where
    pub stored : block γ s.disk (physical γ b) ≡ content
    pub read : (c : Command) → Accepted γ s c → c.kind ≡ 1 → c.block ≡ b → (step γ s c).answer ≡ padded γ content

  -- each command of a call has yes to its questions, in the box that the ones before left
  abbrev pub EachYes : Box → List Order → Type 0
  EachYes s [] = Unit
  EachYes s (o ∷ os) = AllYes (questions γ s (given γ s o)) × EachYes (step γ s (given γ s o)).box os

  -- a call passes if and only if each question put to it has yes, and each that is put to its commands
  pub record Passes (number : ℕ) (qs : List Question) (s : Box) (orders : List Order) : Type 0 where
    pub passes : AllYes qs → EachYes s orders → number ≡ 0
    pub only : number ≡ 0 → AllYes qs × EachYes s orders

module _ (γ : Geometry) (ρ : Range) where
  -- ---- "the newest version of every part"

  abbrev pub NotPutAgain : ℕ → Site → Call → Type 0
  NotPutAgain part x (PutPart other now content) = (put_at γ ρ x other now content).number ≡ 0 → other ≡ part → ⊥
  NotPutAgain part x (Flush now) = Unit
  NotPutAgain part x (Between e) = Unit

  -- the last accepted put of the part among the calls had this content, and answered this block
  pub record Newest (x : Site) (cs : List Call) (part block : ℕ) (content : List ℕ) : Type 0 where
    pub earlier : List Call
    pub later : List Call
    pub now : ℕ
    pub split : cs ≡ earlier ++ (PutPart part now content ∷ later)
    pub accepted : (put_at γ ρ (calls γ ρ x earlier) part now content).number ≡ 0
    pub answered : (put_at γ ρ (calls γ ρ x earlier) part now content).block ≡ block
    pub last : Throughout γ ρ (NotPutAgain part) (calls γ ρ x (earlier ++ (PutPart part now content ∷ []))) later

  -- ---- the promise

  -- "the newest version of every part reads back, at the block answered, as it was put": whatever the box is, whatever the calls are,
  -- refused or not. A point between two calls is the end of the calls before it
  unfoldable pub NewestReadsBack : Type 0
  NewestReadsBack = (lock : ℕ) (s : Box) (cs : List Call) (part b : ℕ) (content : List ℕ)
      → Throughout γ ρ StoreAlone (start_site γ ρ lock s) cs → Newest (start_site γ ρ lock s) cs part b content
      → ReadsBack γ (calls γ ρ (start_site γ ρ lock s) cs).box b content

  -- and the store's own map has that block
  unfoldable pub NewestIsKnown : Type 0
  NewestIsKnown = (lock : ℕ) (s : Box) (cs : List Call) (part b : ℕ) (content : List ℕ)
      → Throughout γ ρ StoreAlone (start_site γ ρ lock s) cs → Newest (start_site γ ρ lock s) cs part b content
      → (calls γ ρ (start_site γ ρ lock s) cs).versions.newest part ≡ Some b

  -- and no other: a block that the map has was answered by the part's last accepted put
  unfoldable pub KnownIsNewest : Type 0
  KnownIsNewest = (lock : ℕ) (s : Box) (cs : List Call) (part b : ℕ) → (calls γ ρ (start_site γ ρ lock s) cs).versions.newest part ≡ Some b
      → (content : List ℕ) × Newest (start_site γ ρ lock s) cs part b content

  -- ---- which calls are accepted

  unfoldable pub PutPassesIfAllYes : Type 0
  PutPassesIfAllYes = (ν : Versions) (s : Box) (part now : ℕ) (content : List ℕ)
      → Passes γ (put γ ρ ν s part now content).number (put_questions γ ρ ν s part now) s (put_plan γ ρ ν s part now content).orders

  unfoldable pub FlushPassesIfAllYes : Type 0
  FlushPassesIfAllYes = (ν : Versions) (s : Box) (now : ℕ)
      → Passes γ (flush γ ρ ν s now).number (flush_questions γ ρ ν s now) s (flush_plan γ ρ ν s now).orders

  -- its commands, with the next reserve looked for in any box: they differ in the log block's pointer, and no question asks for that
  abbrev pub orders_from : Box → Versions → Box → ℕ → ℕ → List ℕ → List Order
  orders_from t ν s part now content =
      version_orders γ ν part (next_for γ ρ s now ν) now content ++ (due_plan γ ρ (entered ν part (next_for γ ρ s now ν)) t now).orders

  -- its number is known before its first command: where its own questions have yes, it is what the counts and the entries foresee
  unfoldable pub PutIsForeseen : Type 0
  PutIsForeseen = (ν : Versions) (s t : Box) (part now : ℕ) (content : List ℕ) → ByteBox s
      → first_no (put_questions γ ρ ν s part now) ≡ 0
      → (put γ ρ ν s part now content).number
      ≡ foreseen γ (groups γ s.memory) (count s.memory) (current_entry γ s) (orders_from t ν s part now content)

  -- "gets the first such number and alters nothing; a store on demand likewise"
  unfoldable pub RefusalAltersNothing : Type 0
  RefusalAltersNothing = (ν : Versions) (s : Box) (part now : ℕ) (content : List ℕ)
      → (((put γ ρ ν s part now content).number ≡ 0 → ⊥) → Unaltered ν s (put γ ρ ν s part now content))
      × (((flush γ ρ ν s now).number ≡ 0 → ⊥) → Unaltered ν s (flush γ ρ ν s now))

-- ---- the store doesn't refuse everything

module _ (γ : Geometry) where
  -- on a formatted box, a store's first put is accepted, and answers block 1
  unfoldable pub FirstPutIsAccepted : Type 0
  FirstPutIsAccepted = (s : Box) (g : ℕ) (salt : List ℕ) (lock part now : ℕ) (content : List ℕ) → (format γ s g salt).number ≡ 0
      → first_no (start_questions lock) ≡ 0 → part ≤ last_part → now ≤ latest_time → length content ≡ block_size γ
      → 3 ≤ γ.entries → 3 ≤ data_blocks γ g
      → ((put γ (whole_box γ g) (start first_block lock) (format γ s g salt).box part now content).number ≡ 0)
      × ((put γ (whole_box γ g) (start first_block lock) (format γ s g salt).box part now content).block ≡ 1)

  -- the next put of that part replaces the version, and is accepted too: it answers block 2
  unfoldable pub ReplacingPutIsAccepted : Type 0
  ReplacingPutIsAccepted = (s : Box) (g : ℕ) (salt : List ℕ) (lock part first second : ℕ) (old content : List ℕ) → (format γ s g salt).number ≡ 0
      → first_no (start_questions lock) ≡ 0 → part ≤ last_part → first ≤ second → second ≤ latest_time → length old ≡ block_size γ
      → length content ≡ block_size γ → 4 ≤ γ.entries → 4 ≤ data_blocks γ g
      → let x = calls γ (whole_box γ g) (start_site γ (whole_box γ g) lock (format γ s g salt).box) (PutPart part first old ∷ []) in
      ((put_at γ (whole_box γ g) x part second content).number ≡ 0) × ((put_at γ (whole_box γ g) x part second content).block ≡ 2)

  -- and so is a put whose record fills a log block: of a store that has all the other records, and no part yet
  unfoldable pub FullPutIsAccepted : Type 0
  FullPutIsAccepted = (s : Box) (g : ℕ) (salt : List ℕ) (lock part now : ℕ) (content : List ℕ) (records : List Record)
      → (format γ s g salt).number ≡ 0 → first_no (start_questions lock) ≡ 0 → part ≤ last_part → now ≤ latest_time → length content ≡ block_size γ
      → length records + 1 ≡ records_per_block γ → 3 ≤ γ.entries → 3 ≤ data_blocks γ g
      → (put γ (whole_box γ g) (versions_of lock (λ p. None) records first_block first_block) (format γ s g salt).box part now content).number ≡ 0

  -- and a store on demand, of a store that has one record
  unfoldable pub FirstFlushIsAccepted : Type 0
  FirstFlushIsAccepted = (s : Box) (g : ℕ) (salt : List ℕ) (lock part block now : ℕ) → (format γ s g salt).number ≡ 0
      → first_no (start_questions lock) ≡ 0 → now ≤ latest_time → 3 ≤ γ.entries → 3 ≤ data_blocks γ g
      → (flush γ (whole_box γ g) (entered (start first_block lock) part block) (format γ s g salt).box now).number ≡ 0
