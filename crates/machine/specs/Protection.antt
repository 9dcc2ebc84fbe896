-- Demand 3, after document 01, "The two runs", and document 02, Q-2: one claim about two whole lists. Its proof is proofs/Theorems.antt,
-- demand-3.
use Rattle.std.specs.Prelude.{◌≡◌, List, ◌++◌, ◌∷◌, ℕ, ◌<◌}
use Rattle.octets.specs.Part.{AreBytes}
use Rattle.lockpage.specs.Geometry.{Geometry}
use Rattle.lockpage.specs.declared.Entry.{Entry}
use Rattle.lockpage.specs.Entry.{time_of_write, flag, frozen_flag, unfrozen_flag}
use Rattle.lockpage.specs.Update.{expiry_at}
use Rattle.lockpage.specs.Page.{entry_at}
use Rattle.addressing.specs.Map.{group_of, place_of, physical, page_block}
use Rattle.disk.specs.Disk.{block}
use Rattle.memory.specs.Memory.{last_time, held, none}
use Rattle.machine.specs.Command.{Box, Command, brought_page}
use Rattle.machine.specs.Tag.{current_page}
use Rattle.machine.specs.Question.{questions, GetsYes}
use Rattle.machine.specs.Step.{step, padded, Accepted}
use Rattle.machine.specs.Run.{Event, Given, Queried, run, Throughout}

-- γ is the box's geometry; the numbers quoted are those at base
module _ (γ : Geometry) where
  -- ---- the premises

  -- "A page is forged if a kind 4, 5 or 6 gets yes to question 7 and the page brought isn't the current page of the block's group in the
  -- memory and disk which that command gets." Question 7 is put to no other kind
  abbrev pub Unforged : Box → Event → Type 0
  Unforged s (Given c) = GetsYes 7 (questions γ s c) → brought_page γ c.proof ≡ current_page γ s (group_of γ c.block)
  Unforged s (Queried q) = Unit

  -- "A block is unfrozen in a run if the list has an accepted kind 5 on it."
  abbrev pub NotUnfrozen : ℕ → Box → Event → Type 0
  NotUnfrozen b s (Given c) = Accepted γ s c → c.kind ≡ 5 → c.block ≡ b → ⊥
  NotUnfrozen b s (Queried q) = Unit

  -- ---- "What a block was at the start is read off the start's disk."

  -- "Its content is the 512 bytes at its physical block"
  abbrev pub start_content : Box → ℕ → List ℕ
  start_content s b = block γ s.disk (physical γ b)

  abbrev pub start_entry : Box → ℕ → Entry
  start_entry s b = entry_at (block γ s.disk (page_block γ (group_of γ b))) (place_of γ b)

  -- ---- what is shown

  -- "While the block is protected, an accepted kind 1 on it answers that content, and an accepted kind 2 an entry whose stamp div 2 is
  -- that time of write." An entry stands at the start of its answer
  pub record CommandShows (b : ℕ) (content : List ℕ) (time : ℕ) (during : ℕ → Type 0) (s : Box) (c : Command) : Type 0 where
    pub read : Accepted γ s c → c.kind ≡ 1 → c.block ≡ b → during c.now → (step γ s c).answer ≡ padded γ content
    pub entry : Accepted γ s c → c.kind ≡ 2 → c.block ≡ b → during c.now → time_of_write (entry_at (step γ s c).answer 0) ≡ time

  abbrev pub Shows : ℕ → List ℕ → ℕ → (ℕ → Type 0) → Box → Event → Type 0
  Shows b content time during s (Given c) = CommandShows b content time during s c
  Shows b content time during s (Queried q) = Unit

  -- ---- the claim

  -- T is the last time at the start. "With f = 0 and word L in its entry it is frozen under lock L": unfrozen at T, it has this expiry
  abbrev pub earliest_expiry : Box → ℕ → ℕ
  earliest_expiry s b = expiry_at (last_time γ s.memory) (start_entry s b).word

  -- block b is protected at time t. "A command is timed by its now; T + L is a plain sum"
  pub data Protected (s : Box) (b : ℕ) (xs ys : List Event) (t : ℕ) : Type 0 where
    -- document 02, Q-2: "A frozen block with L of 1 or more is protected up to and including T + L"; under a lock of 0 before T, when no
    -- command is accepted
    FrozenUnder : flag (start_entry s b).stamp ≡ frozen_flag → t < earliest_expiry s b → Protected s b xs ys t
    -- "with f = 1 and word E, E above T, it is counting down to E": before E
    CountingTo : flag (start_entry s b).stamp ≡ unfrozen_flag → last_time γ s.memory < (start_entry s b).word → t < (start_entry s b).word
        → Protected s b xs ys t
    -- "one frozen and unfrozen in neither run, to the end"
    NeverUnfrozen : flag (start_entry s b).stamp ≡ frozen_flag → Throughout γ (NotUnfrozen b) s xs → Throughout γ (NotUnfrozen b) s ys
        → Protected s b xs ys t

  -- the run es from s shows block b, where it is protected, as it was at the start
  abbrev pub ShowsStart : Box → ℕ → List Event → List Event → List Event → Type 0
  ShowsStart s b xs ys es = Throughout γ (Shows b (start_content s b) (time_of_write (start_entry s b)) (Protected s b xs ys)) s es

  -- "Both start from the same memory and disk, held group 255", and no page in either run is forged; a disk is bytes. Both runs show
  -- a protected block alike: each shows it as it was at the start
  unfoldable pub Demand3 : Type 0
  Demand3 = (s : Box) (b : ℕ) (xs ys : List Event) → AreBytes s.disk → held γ s.memory ≡ none
      → Throughout γ Unforged s xs → Throughout γ Unforged s ys → ShowsStart s b xs ys xs × ShowsStart s b xs ys ys

  -- ---- so two accepted reads of a protected block, one in each run, have the same answer, and two accepted entries the same time of write

  -- an accepted command of kind k on block b, among the events of a run from s
  pub record ShownIn (k : ℕ) (s : Box) (b : ℕ) (es : List Event) (c : Command) : Type 0 where
    pub earlier : List Event
    pub later : List Event
    pub split : es ≡ earlier ++ (Given c ∷ later)
    pub kind : c.kind ≡ k
    pub block : c.block ≡ b
    pub accepted : Accepted γ (run γ s earlier) c

  -- "both runs show a protected block alike": what is seen in the answers of two such commands is the same
  abbrev pub SeenAlike : {A : Type 0} → ℕ → (List ℕ → A) → Type 0
  SeenAlike k seen = (s : Box) (b : ℕ) (xs ys : List Event) → AreBytes s.disk → held γ s.memory ≡ none
      → Throughout γ Unforged s xs → Throughout γ Unforged s ys
      → (c d : Command) (x : ShownIn k s b xs c) (y : ShownIn k s b ys d) → Protected s b xs ys c.now → Protected s b xs ys d.now
      → seen (step γ (run γ s x.earlier) c).answer ≡ seen (step γ (run γ s y.earlier) d).answer

  -- "every accepted read of it gives the content"
  unfoldable pub ReadsAlike : Type 0
  ReadsAlike = SeenAlike 1 (λ answer. answer)

  -- "and every accepted entry the time of write"
  unfoldable pub EntriesAlike : Type 0
  EntriesAlike = SeenAlike 2 (λ answer. time_of_write (entry_at answer 0))
