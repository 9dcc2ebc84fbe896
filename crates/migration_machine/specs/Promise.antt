-- Q-7's promise: "and each later command then answers as it would have before". Each claim is a type; its proof has the claim's name in
-- proofs/Theorems.antt. γ is the old box's geometry, and the new box has n groups at most.
use Rattle.std.specs.Prelude.{◌≡◌, true, List, [], ◌∷◌, ℕ}
use Rattle.lockpage.specs.Geometry.{Geometry, widened}
use Rattle.memory.specs.Memory.{groups}
use Rattle.validity.specs.Valid.{valid}
use Rattle.machine.specs.Command.{Box, box_of}
use Rattle.machine.specs.Step.{step}
use Rattle.machine.specs.Query.{query_step}
use Rattle.machine.specs.Run.{Event, Given, Queried, after, run}
use Rattle.versions_machine.specs.Versions.{Range}
use Rattle.versions_machine.specs.Allocation.{first_block, whole_box}
use Rattle.versions_state.specs.State.{is_valid}
use Rattle.versions_bytes.specs.Call.{start_bytes, lookup, put_bytes, flush_bytes}
use Rattle.recovery_machine.specs.Recover.{recover}
use Rattle.migration_machine.specs.Migrate.{migrated}

-- ---- what the caller of a box sees, event by event

-- the number, a query's number of pages, the answer buffer and the disk that an event leaves
pub record Seen : Type 0 where
  pub number : ℕ
  pub second : ℕ
  pub answer : List ℕ
  pub disk : List ℕ

abbrev pub seen_of : ℕ → ℕ → List ℕ → List ℕ → Seen
seen_of number second answer disk = record { number = number; second = second; answer = answer; disk = disk }

module _ (γ : Geometry) where
  abbrev pub seen : Box → Event → Seen
  seen s (Given c) = seen_of (step γ s c).number 0 (step γ s c).answer (step γ s c).box.disk
  seen s (Queried q) = seen_of (query_step γ s q).number (query_step γ s q).pages (query_step γ s q).answer (query_step γ s q).box.disk

  abbrev pub trace : Box → List Event → List Seen
  trace s [] = []
  trace s (e ∷ es) = seen s e ∷ trace (after γ s e) es

-- ---- the same for an office, which has a version store's state beside the box, and recovers

-- a call on the two: an event, a store's start with a lock, a put of a part at a time, a flush, a lookup of a part's block, a recovery of a
-- point in time at a time, into a buffer
pub data Use : Type 0 where
  Happens : Event → Use
  Start : ℕ → Use
  PutPart : ℕ → ℕ → List ℕ → Use
  Flush : ℕ → Use
  Locate : ℕ → Use
  Recover : ℕ → ℕ → List ℕ → Use

pub record Office : Type 0 where
  pub state : List ℕ
  pub box : Box

abbrev pub office_of : List ℕ → Box → Office
office_of state box = record { state = state; box = box }

-- what is seen, a block answered as the second number and a recovery's result as the answer, and the state that the call leaves
pub record Reply : Type 0 where
  pub seen : Seen
  pub state : List ℕ

abbrev pub reply_of : Seen → List ℕ → Reply
reply_of seen state = record { seen = seen; state = state }

module _ (γ : Geometry) where
  -- the blocks of the box, which store and recovery use
  abbrev pub blocks_in : Box → Range
  blocks_in s = whole_box γ (groups γ s.memory)

  abbrev pub reply : Office → Use → Reply
  reply o (Happens e) = reply_of (seen γ o.box e) o.state
  reply o (Start lock) =
      let r = start_bytes γ first_block o.state lock in
      reply_of (seen_of r.number 0 [] o.box.disk) r.state
  reply o (PutPart part now content) =
      let r = put_bytes γ (blocks_in o.box) o.state o.box part now content in
      reply_of (seen_of r.number r.block [] r.box.disk) r.state
  reply o (Flush now) =
      let r = flush_bytes γ (blocks_in o.box) o.state o.box now in
      reply_of (seen_of r.number r.block [] r.box.disk) r.state
  reply o (Locate part) =
      let r = lookup γ o.state part in
      reply_of (seen_of r.number r.block [] o.box.disk) o.state
  reply o (Recover point now result) =
      let r = recover γ (blocks_in o.box) o.box point now result in
      reply_of (seen_of r.number 0 r.result o.box.disk) o.state

  -- what it leaves
  abbrev pub used : Office → Use → Office
  used o (Happens e) = office_of o.state (after γ o.box e)
  used o (Start lock) = office_of (start_bytes γ first_block o.state lock).state o.box
  used o (PutPart part now content) =
      let r = put_bytes γ (blocks_in o.box) o.state o.box part now content in
      office_of r.state r.box
  used o (Flush now) =
      let r = flush_bytes γ (blocks_in o.box) o.state o.box now in
      office_of r.state r.box
  used o (Locate part) = o
  used o (Recover point now result) = o

  abbrev pub replies : Office → List Use → List Reply
  replies o [] = []
  replies o (u ∷ us) = reply o u ∷ replies (used o u) us

-- ---- the promise

module _ (γ : Geometry) (n : ℕ) where
  -- the box with its memory migrated, and its disk as it is
  abbrev pub moved_box : Box → Box
  moved_box s = box_of (migrated γ n s.memory) s.disk

  -- whatever the disk, and its length, and whatever the events, refused or not: from a valid old memory and from the one that it is
  -- migrated to, they show the same numbers, answers and disks
  unfoldable pub AnswersAsBefore : Type 0
  AnswersAsBefore = (old disk : List ℕ) (es : List Event) → valid γ old ≡ true
      → trace (widened γ n) (moved_box (box_of old disk)) es ≡ trace γ (box_of old disk) es

  -- and the new box stays the migrated old one: it doesn't matter when, between two events, a box is migrated
  unfoldable pub MigratesAtAnyTime : Type 0
  MigratesAtAnyTime = (old disk : List ℕ) (es : List Event) → valid γ old ≡ true
      → run (widened γ n) (moved_box (box_of old disk)) es ≡ moved_box (run γ (box_of old disk) es)

  -- a state that is valid in an old box is so in the new one
  unfoldable pub StateStaysValid : Type 0
  StateStaysValid = (state : List ℕ) → is_valid γ state ≡ true → is_valid (widened γ n) state ≡ true

  -- the same of every list of an office's calls, with a state that is valid in both boxes or in neither
  unfoldable pub OfficeIsAnsweredAsBefore : Type 0
  OfficeIsAnsweredAsBefore = (state old disk : List ℕ) (us : List Use) → valid γ old ≡ true → is_valid (widened γ n) state ≡ is_valid γ state
      → replies (widened γ n) (office_of state (moved_box (box_of old disk))) us ≡ replies γ (office_of state (box_of old disk)) us
