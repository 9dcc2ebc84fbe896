-- The premises of demand 3 can be met, by two runs in which it says something. One writes a block and syncs; from there on, which is the
-- start, it unfreezes the block, shows its entry, queries its state, restarts, reads it back, unfreezes it again and overwrites it. The
-- other shows, queries and reads it from the same start. Each event is accepted, no page is forged, and the block is protected where it is
-- shown, queried and read. A third run, from the first unfreeze to its expiry, meets those of specs/Expiry.antt; and a fourth has a
-- block that counts at its start. The claims are types; their proofs are proofs/Theorems.antt, premises-met, expiry-met and counting-met.
use Rattle.std.specs.Prelude.{◌≡◌, List, [], ◌∷◌, ◌++◌, ℕ, ◌*◌, get_or}
use Rattle.octets.specs.Part.{AreBytes, repeated}
use Rattle.lockpage.specs.Geometry.{base}
use Rattle.lockpage.specs.Size.{block_size}
use Rattle.lockpage.specs.Entry.{entry, stamp_of, frozen_flag, unfrozen_flag}
use Rattle.lockpage.specs.Page.{entry_at}
use Rattle.addressing.specs.Map.{disk_size, group_of, physical}
use Rattle.disk.specs.Disk.{block}
use Rattle.memory.specs.Layout.{memory_size, salt_size}
use Rattle.memory.specs.Memory.{last_time, held, none}
use Rattle.machine.specs.Command.{Box, Command, box_of, answer_size}
use Rattle.machine.specs.Tag.{tagged, current_page, current_entry}
use Rattle.machine.specs.Effect.{state_place}
use Rattle.machine.specs.Step.{step, padded, Accepted}
use Rattle.machine.specs.Format.{format}
use Rattle.machine.specs.Query.{Query, query_of, numbers, shown_size, query_step, AcceptedQuery}
use Rattle.machine.specs.Run.{Event, Given, Queried, run, Throughout}
use Rattle.machine.specs.Protection.{Unforged, start_content, start_entry, Protected, ShownIn}
use Rattle.machine.specs.Expiry.{lock_of, Unfreezes, PageStays, EntryStays}

-- an update of block 0 that brings the current page with its tag
abbrev pub updating : Box → ℕ → ℕ → ℕ → List ℕ → Command
updating s kind now value content =
    record {
      kind = kind;
      block = 0;
      now = now;
      value = value;
      content = content;
      proof = tagged base s.memory (group_of base 0) (current_page base s (group_of base 0));
      answer = repeated (answer_size base) 0;
    }

-- a command that brings nothing; if it names a block, block 0
abbrev pub plain : ℕ → ℕ → Command
plain kind now =
    record { kind = kind; block = 0; now = now; value = 0; content = []; proof = []; answer = repeated (answer_size base) 0 }

-- a query of blocks 0, 1 and 0, each number in 4 bytes
abbrev pub asking : ℕ → Query
asking now = query_of (0 ∷ 0 ∷ 0 ∷ 0 ∷ 1 ∷ 0 ∷ 0 ∷ 0 ∷ 0 ∷ 0 ∷ 0 ∷ 0 ∷ []) now (repeated (shown_size * 3) 0)

-- ---- the start

-- a formatted box of one group, its salt and data zeros
unfoldable pub formatted_box : Box
formatted_box = (format base (box_of (repeated (memory_size base) 0) (repeated (disk_size base 1) 0)) 1 (repeated salt_size 0)).box

-- lock 500 is written to block 0 at 1000
abbrev pub writing : Command
writing = updating formatted_box 4 1000 500 (repeated (block_size base) 1)

unfoldable pub written_box : Box
written_box = (step base formatted_box writing).box

-- and the page synced
abbrev pub syncing : Command
syncing = plain 7 1000

unfoldable pub start : Box
start = (step base written_box syncing).box

-- ---- the run

-- unfrozen at 1200
abbrev pub unfreezing : Command
unfreezing = updating start 5 1200 0 []

unfoldable pub unfrozen_box : Box
unfrozen_box = (step base start unfreezing).box

-- its entry shown at 1250
abbrev pub showing : Command
showing = plain 2 1250

unfoldable pub shown_box : Box
shown_box = (step base unfrozen_box showing).box

-- its state queried at 1275
abbrev pub listing : Query
listing = asking 1275

unfoldable pub listed_box : Box
listed_box = (query_step base shown_box listing).box

-- a restart at 1300 loses the unfreeze
abbrev pub restarting : Command
restarting = plain 8 1300

unfoldable pub restarted_box : Box
restarted_box = (step base listed_box restarting).box

-- read back at 1350
abbrev pub reading_back : Command
reading_back = plain 1 1350

unfoldable pub read_box : Box
read_box = (step base restarted_box reading_back).box

-- unfrozen at 1400
abbrev pub unfreezing_again : Command
unfreezing_again = updating read_box 5 1400 0 []

unfoldable pub counting_box : Box
counting_box = (step base read_box unfreezing_again).box

-- and overwritten at 1901, when the lock has passed
abbrev pub overwriting : Command
overwriting = updating counting_box 4 1901 0 (repeated (block_size base) 2)

-- what comes after the first unfreeze
abbrev pub later_events : List Event
later_events =
    Given showing ∷ Queried listing ∷ Given restarting ∷ Given reading_back ∷ Given unfreezing_again ∷ Given overwriting ∷ []

abbrev pub events : List Event
events = Given unfreezing ∷ later_events

-- ---- the other run

-- its entry shown at 1450
abbrev pub showing_other : Command
showing_other = plain 2 1450

unfoldable pub other_box : Box
other_box = (step base start showing_other).box

-- its state queried at 1475
abbrev pub listing_other : Query
listing_other = asking 1475

unfoldable pub other_listed_box : Box
other_listed_box = (query_step base other_box listing_other).box

-- and the block read at 1500, which is T + L
abbrev pub reading_other : Command
reading_other = plain 1 1500

abbrev pub other_events : List Event
other_events = Given showing_other ∷ Queried listing_other ∷ Given reading_other ∷ []

-- ---- a run to the expiry: from the first unfreeze on

-- its entry shown at 1700, which is 1200 + 500
abbrev pub showing_last : Command
showing_last = plain 2 1700

unfoldable pub last_box : Box
last_box = (step base unfrozen_box showing_last).box

-- and a second later
abbrev pub showing_free : Command
showing_free = plain 2 1701

abbrev pub to_expiry : List Event
to_expiry = Given showing_last ∷ Given showing_free ∷ []

-- ---- a start at which block 0 counts: the first unfreeze synced

abbrev pub syncing_unfrozen : Command
syncing_unfrozen = plain 7 1200

unfoldable pub counting_start : Box
counting_start = (step base unfrozen_box syncing_unfrozen).box

-- from there one run shows its entry at 1700, the other does nothing
abbrev pub counting_events : List Event
counting_events = Given showing_last ∷ []

-- ---- the claims

abbrev pub IsAccepted : Box → Event → Type 0
IsAccepted s (Given c) = Accepted base s c
IsAccepted s (Queried q) = AcceptedQuery base s q

-- an accepted command of kind k on block 0, at a time when the block is protected; P holds of its answer
pub record ShowsProtected (k : ℕ) (es : List Event) (c : Command) (P : List ℕ → Type 0) : Type 0 where
  pub among : ShownIn base k start 0 es c
  pub protected : Protected base start 0 events other_events c.now
  pub answers : P (step base (run base start among.earlier) c).answer

-- an accepted query of block 0, twice, and of block 1, at a time when block 0 is protected; what it answers, of one page
pub record ListsProtected (es : List Event) (q : Query) (answer : List ℕ) : Type 0 where
  pub earlier : List Event
  pub later : List Event
  pub split : es ≡ earlier ++ (Queried q ∷ later)
  pub names : numbers q.blocks ≡ 0 ∷ 1 ∷ 0 ∷ []
  pub accepted : AcceptedQuery base (run base start earlier) q
  pub protected : Protected base start 0 events other_events q.now
  pub answers : (query_step base (run base start earlier) q).answer ≡ answer
  pub pages : (query_step base (run base start earlier) q).pages ≡ 1

pub record PremisesMet : Type 0 where
  -- the whole run, from the formatted box on
  pub begins_bytes : AreBytes formatted_box.disk
  pub begins_none_held : held base formatted_box.memory ≡ none
  pub all_unforged : Throughout base (Unforged base) formatted_box (Given writing ∷ Given syncing ∷ events)
  pub all_accepted : Throughout base IsAccepted formatted_box (Given writing ∷ Given syncing ∷ events)
  -- both runs, from the start on: T is 1000, block 0 is frozen under lock 500, and in the end the first run overwrites it
  pub bytes : AreBytes start.disk
  pub none_held : held base start.memory ≡ none
  pub unforged : Throughout base (Unforged base) start events
  pub other_unforged : Throughout base (Unforged base) start other_events
  pub last_time_is : last_time base start.memory ≡ 1000
  pub start_entry_is : start_entry base start 0 ≡ entry 500 (stamp_of 1000 frozen_flag)
  pub start_content_is : start_content base start 0 ≡ repeated (block_size base) 1
  pub overwritten : block base (run base start events).disk (physical base 0) ≡ repeated (block_size base) 2
  -- up to and including T + L both answer the time of write 1000, the first in the entry of its unfreeze, and both the content
  pub shown : ShowsProtected 2 events showing (λ answer. entry_at answer 0 ≡ entry 1701 (stamp_of 1000 unfrozen_flag))
  pub other_shown : ShowsProtected 2 other_events showing_other (λ answer. entry_at answer 0 ≡ entry 500 (stamp_of 1000 frozen_flag))
  pub read_back : ShowsProtected 1 events reading_back (λ answer. answer ≡ padded base (repeated (block_size base) 1))
  pub other_read : ShowsProtected 1 other_events reading_other (λ answer. answer ≡ padded base (repeated (block_size base) 1))
  -- a query answers for each number the state and the time left: block 0 counts, with 426 seconds left, or is frozen under lock 500;
  -- block 1 is free, its expiry 0
  pub listed : ListsProtected events listing
      (2 ∷ 170 ∷ 1 ∷ 0 ∷ 0 ∷ 0 ∷ 0 ∷ 0 ∷ 0 ∷ 0 ∷ 5 ∷ 251 ∷ 255 ∷ 255 ∷ 255 ∷ 255 ∷ 255 ∷ 255 ∷ 2 ∷ 170 ∷ 1 ∷ 0 ∷ 0 ∷ 0 ∷ 0 ∷ 0 ∷ 0 ∷ [])
  pub other_listed : ListsProtected other_events listing_other
      (1 ∷ 244 ∷ 1 ∷ 0 ∷ 0 ∷ 0 ∷ 0 ∷ 0 ∷ 0 ∷ 0 ∷ 61 ∷ 250 ∷ 255 ∷ 255 ∷ 255 ∷ 255 ∷ 255 ∷ 255 ∷ 1 ∷ 244 ∷ 1 ∷ 0 ∷ 0 ∷ 0 ∷ 0 ∷ 0 ∷ 0 ∷ [])
  -- and the other run does not unfreeze it: were both as it is, the block would be protected to the end
  pub to_the_end : (t : ℕ) → Protected base start 0 other_events other_events t

-- those of specs/Expiry.antt: block 0, under lock 500, is unfrozen at 1200
pub record ExpiryMet : Type 0 where
  pub unfreezes : Unfreezes base start unfreezing to_expiry
  pub lock : lock_of base start 0 ≡ 500
  -- both ways in which the lock stays: the disk has the entry, also in the run with a restart, or no page is lost
  pub unfreezes_restarted : Unfreezes base start unfreezing later_events
  pub on_disk : start_entry base start 0 ≡ current_entry base start 0
  pub none_lost : Throughout base (PageStays base 0) unfrozen_box to_expiry
  -- and nobody increments the block
  pub entry_stays : Throughout base (EntryStays base 0) unfrozen_box to_expiry
  pub accepted : Throughout base IsAccepted unfrozen_box to_expiry
  -- at 1700 it is shown as counting, at 1701 as free
  pub counting : get_or (step base unfrozen_box showing_last).answer state_place 0 ≡ 2
  pub free : get_or (step base last_box showing_free).answer state_place 0 ≡ 0

-- and demand 3's of a block that counts at the start: T is 1200, its expiry is 1701
pub record CountingMet : Type 0 where
  pub bytes : AreBytes counting_start.disk
  pub none_held : held base counting_start.memory ≡ none
  pub unforged : Throughout base (Unforged base) counting_start counting_events
  pub last_time_is : last_time base counting_start.memory ≡ 1200
  pub start_entry_is : start_entry base counting_start 0 ≡ entry 1701 (stamp_of 1000 unfrozen_flag)
  -- it is protected up to 1700, when the first run shows its time of write
  pub protected : Protected base counting_start 0 counting_events [] 1700
  pub among : ShownIn base 2 counting_start 0 counting_events showing_last
  pub shown : entry_at (step base counting_start showing_last).answer 0 ≡ entry 1701 (stamp_of 1000 unfrozen_flag)
