-- The promise of document 02, Q-6: "If the keeper, started once, alone used the box from formatting to X, without restart, had just stored
-- its log and synced at X, and all later commands are timed after X, under demand 3's premises, then at clocks before X + R the result is
-- the keeper's own map at X, whatever those commands were." The keeper is the version store, and X the point. Each claim is a type; its
-- proof has the claim's name in proofs/Theorems.antt.
use Rattle.std.specs.Prelude.{◌≡◌, List, [], ℕ, ◌+◌, ◌<◌, Some}
use Rattle.octets.specs.Part.{AreBytes}
use Rattle.lockpage.specs.Geometry.{Geometry}
use Rattle.memory.specs.Memory.{groups}
use Rattle.machine.specs.Command.{Box, Command}
use Rattle.machine.specs.Question.{first_no}
use Rattle.machine.specs.Step.{Accepted, step, padded}
use Rattle.machine.specs.Format.{format}
use Rattle.machine.specs.Run.{Event, Given, time_of, run}
use Rattle.machine.specs.Run as R
use Rattle.machine.specs.Protection.{Unforged}
use Rattle.versions_machine.specs.Versions.{Range, start_questions}
use Rattle.versions_machine.specs.Allocation.{whole_box}
use Rattle.versions_machine.specs.Call.{flush}
use Rattle.versions_machine.specs.Run.{Call, Flush, Between, Site, start_site, called, calls, Throughout}
use Rattle.versions_machine.specs.Claims.{StoreAlone, Newest}
use Rattle.versions_state.specs.Layout.{parts}
use Rattle.versions_state.specs.State.{newest_bytes}
use Rattle.recovery_machine.specs.Recover.{recovered, recover, AcceptedRecovery}

-- how a box was used up to the point: formatted, with so many groups and a salt; a store started with a lock; its calls; then a store on
-- demand and a sync, at the point
pub record Use : Type 0 where
  pub before : Box
  pub groups : ℕ
  pub salt : List ℕ
  pub lock : ℕ
  pub calls : List Call
  pub point : ℕ
  pub sync : Command

module _ (γ : Geometry) where
  -- the blocks of that box; the store as it was started, as its calls left it, with its log just stored, and synced
  abbrev pub range : Use → Range
  range u = whole_box γ u.groups

  abbrev pub started : Use → Site
  started u = start_site γ (range u) u.lock (format γ u.before u.groups u.salt).box

  abbrev pub used : Use → Site
  used u = calls γ (range u) (started u) u.calls

  abbrev pub flushed : Use → Site
  flushed u = called γ (range u) (used u) (Flush u.point)

  abbrev pub synced : Use → Site
  synced u = called γ (range u) (flushed u) (Between (Given u.sync))

  -- "started once, alone used the box from formatting to X, without restart, had just stored its log and synced at X"
  pub record StoredAtPoint (u : Use) : Type 0 where
    pub formatted : (format γ u.before u.groups u.salt).number ≡ 0
    pub lock_passes : first_no (start_questions u.lock) ≡ 0
    pub alone : Throughout γ (range u) StoreAlone (started u) u.calls
    pub flush_passes : (flush γ (range u) (used u).versions (used u).box u.point).number ≡ 0
    pub sync_kind : u.sync.kind ≡ 7
    pub sync_time : u.sync.now ≡ u.point
    pub sync_passes : Accepted γ (flushed u).box u.sync

  -- "all later commands are timed after X, under demand 3's premises": a disk is bytes, and no page is forged. With the sync none is held
  pub record TimedAfter (u : Use) (es : List Event) : Type 0 where
    pub bytes : AreBytes (synced u).box.disk
    pub unforged : R.Throughout γ (Unforged γ) (synced u).box es
    pub later : R.Throughout γ (λ s e. u.point < time_of e) (synced u).box es

  -- the box as those events left it
  abbrev pub intruded : Use → List Event → Box
  intruded u es = run γ (synced u).box es

  -- ---- the promise

  -- the blocks that a call on that box takes as in range are those that the store used
  unfoldable pub SameBlocks : Type 0
  SameBlocks = (u : Use) (es : List Event) → StoredAtPoint u → whole_box γ (groups γ (intruded u es).memory) ≡ range u

  -- nothing is left unstored
  unfoldable pub NothingUnstored : Type 0
  NothingUnstored = (u : Use) → StoredAtPoint u → (synced u).versions.records ≡ []

  -- "at clocks before X + R the result is the keeper's own map at X, whatever those commands were"
  unfoldable pub RecoversMap : Type 0
  RecoversMap = (u : Use) (es : List Event) (now : ℕ) (result : List ℕ) → StoredAtPoint u → TimedAfter u es → now < u.point + u.lock
      → AcceptedRecovery γ (range u) (intruded u es) u.point now result
      → (recover γ (range u) (intruded u es) u.point now result).result ≡ newest_bytes (synced u).versions.newest 0 parts

  -- and the parts themselves: a block that the result names was answered by the part's last accepted put, and reads as it was put, by every
  -- accepted kind 1 at such a clock
  pub record PartReads (u : Use) (s : Box) (part b : ℕ) : Type 0 where
    pub content : List ℕ
    pub newest : Newest γ (range u) (started u) u.calls part b content
    pub read : (c : Command) → Accepted γ s c → c.kind ≡ 1 → c.block ≡ b → c.now < u.point + u.lock → (step γ s c).answer ≡ padded γ content

  unfoldable pub PartsReadBack : Type 0
  PartsReadBack = (u : Use) (es : List Event) (now : ℕ) (result : List ℕ) (part b : ℕ) → StoredAtPoint u → TimedAfter u es
      → now < u.point + u.lock → AcceptedRecovery γ (range u) (intruded u es) u.point now result
      → recovered γ (range u) (intruded u es) u.point now part ≡ Some b → PartReads u (intruded u es) part b
