-- When a block that has been unfrozen is free, and until when a frozen one is protected: document 02, Q-2. Each claim is a type; its proof
-- has the claim's name in proofs/Theorems.antt.
use Rattle.std.specs.Prelude.{◌≡◌, List, ◌∷◌, ℕ, ◌+◌, ◌≤◌}
use Rattle.octets.specs.Part.{AreBytes}
use Rattle.lockpage.specs.Geometry.{Geometry}
use Rattle.lockpage.specs.declared.State.TheVariants.{Free}
use Rattle.lockpage.specs.Entry.{flag, frozen_flag}
use Rattle.lockpage.specs.State.{state_number}
use Rattle.addressing.specs.Map.{group_of}
use Rattle.memory.specs.Memory.{last_time, held}
use Rattle.machine.specs.Command.{Box, Command}
use Rattle.machine.specs.Tag.{current_entry}
use Rattle.machine.specs.Step.{step, Accepted}
use Rattle.machine.specs.Run.{Event, Given, Queried, Throughout}
use Rattle.machine.specs.Protection.{Unforged, start_entry, Protected}
use Rattle.machine.specs.NotFree.{StateShown, NotShownFree}

-- γ is the box's geometry; the numbers quoted are those at base
module _ (γ : Geometry) where
  -- "A frozen block with L of 1 or more is protected up to and including T + L."
  unfoldable pub ProtectedThroughLock : Type 0
  ProtectedThroughLock = (s : Box) (b : ℕ) (xs ys : List Event) (t : ℕ) → flag (start_entry γ s b).stamp ≡ frozen_flag → 1 ≤ (start_entry γ s b).word
      → t ≤ last_time γ s.memory + (start_entry γ s b).word → Protected γ s b xs ys t

  -- ---- an unfreeze and what comes after it

  -- the lock that block b is under
  abbrev pub lock_of : Box → ℕ → ℕ
  lock_of s b = (current_entry γ s b).word

  -- c is an accepted unfreeze of a block under a lock of 1 or more, and neither it nor one of the events after it brings a forged page.
  -- A proof is bytes
  pub record Unfreezes (s : Box) (c : Command) (es : List Event) : Type 0 where
    pub kind : c.kind ≡ 5
    pub accepted : Accepted γ s c
    pub lock : 1 ≤ lock_of s c.block
    pub bytes : AreBytes c.proof
    pub unforged : Throughout γ (Unforged γ) s (Given c ∷ es)

  -- a restart loses the held page: none comes while that is the page of block b
  abbrev pub PageStays : ℕ → Box → Event → Type 0
  PageStays b s (Given c) = Accepted γ s c → c.kind ≡ 8 → held γ s.memory ≡ group_of γ b → ⊥
  PageStays b s (Queried q) = Unit

  -- no restart undoes the lock: either none loses the block's page, or the disk has the entry that is unfrozen, as after a sync, so that a
  -- restart brings the frozen block back
  pub data LockStays (s : Box) (c : Command) (es : List Event) : Type 0 where
    NoneLost : Throughout γ (PageStays c.block) (step γ s c).box es → LockStays s c es
    OnDisk : start_entry γ s c.block ≡ current_entry γ s c.block → LockStays s c es

  -- "The keeping rule now counts completed seconds": unfrozen at t under lock L, the block is shown as free at no time up to and including
  -- t + L
  unfoldable pub UnfrozenNotFree : Type 0
  UnfrozenNotFree = (s : Box) (c : Command) (es : List Event) → Unfreezes s c es → LockStays s c es
      → Throughout γ (NotShownFree γ c.block (λ now. now ≤ c.now + lock_of s c.block)) (step γ s c).box es

  -- ---- and then it is free

  -- no accepted command increments block b or writes it again, and no restart loses its page
  pub record CommandKeepsEntry (b : ℕ) (s : Box) (c : Command) : Type 0 where
    pub not_incremented : Accepted γ s c → c.kind ≡ 6 → c.block ≡ b → ⊥
    pub not_written : Accepted γ s c → c.kind ≡ 4 → c.block ≡ b → ⊥
    pub page_stays : PageStays b s (Given c)

  abbrev pub EntryStays : ℕ → Box → Event → Type 0
  EntryStays b s (Given c) = CommandKeepsEntry b s c
  EntryStays b s (Queried q) = Unit

  -- during those times block b is shown as free
  abbrev pub ShownFree : ℕ → (ℕ → Type 0) → Box → Event → Type 0
  ShownFree b = StateShown γ b (λ shown. shown ≡ state_number Free)

  -- from t + L + 1 on the block is shown as free, if nobody increments it
  unfoldable pub UnfrozenThenFree : Type 0
  UnfrozenThenFree = (s : Box) (c : Command) (es : List Event) → Unfreezes s c es → Throughout γ (EntryStays c.block) (step γ s c).box es
      → Throughout γ (ShownFree c.block (λ now. c.now + lock_of s c.block + 1 ≤ now)) (step γ s c).box es
