-- The five shortcuts of document 01, "Shortcuts to rule out": for each, that the controller does not take it. The claim is a type; its
-- proof is proofs/Theorems.antt, shortcuts.
use Rattle.std.specs.Prelude.{◌≡◌, List, ℕ, ◌<◌}
use Rattle.octets.specs.Part.{AreBytes}
use Rattle.lockpage.specs.Geometry.{Geometry}
use Rattle.lockpage.specs.declared.Update.{Update}
use Rattle.lockpage.specs.Entry.{flag, unfrozen_flag}
use Rattle.addressing.specs.Map.{group_data, group_of, physical, page_block}
use Rattle.memory.specs.Memory.{held}
use Rattle.blake3.specs.Blake3.{digest}
use Rattle.machine.specs.declared.Kind.TheVariants.{Change}
use Rattle.machine.specs.Command.{Box, Command, kind_of, brought_page, brought_entry}
use Rattle.machine.specs.Tag.{tag_message}
use Rattle.machine.specs.Step.{step, Accepted}
use Rattle.machine.specs.Run.{Event, Given, Queried, run, Throughout}
use Rattle.machine.specs.Claims.{RefusedBy}
use Rattle.machine.specs.Protection.{Unforged}

-- the tags of these two messages differ if the messages do. No digest has this of all messages: it is a premise about the two at hand
abbrev pub Distinguished : List ℕ → List ℕ → Type 0
Distinguished x y = digest x ≡ digest y → x ≡ y

-- γ is the box's geometry; the numbers quoted are those at base
module _ (γ : Geometry) where
  -- the command is no accepted new salt
  abbrev pub SaltStays : Box → Event → Type 0
  SaltStays s (Given c) = Accepted γ s c → c.kind ≡ 9 → ⊥
  SaltStays s (Queried q) = Unit

  -- the messages of a page of group g under the salt and count of one memory and of another
  abbrev pub TagsDiffer : List ℕ → List ℕ → ℕ → List ℕ → Type 0
  TagsDiffer m n g page = Distinguished (tag_message γ m g page) (tag_message γ n g page)

  -- "Reading f = 1 as free without the expiry": a write before the expiry is refused
  unfoldable pub NotFreeBeforeExpiry : Type 0
  NotFreeBeforeExpiry = (s : Box) (c : Command) → c.kind ≡ 4 → flag (brought_entry γ c).stamp ≡ unfrozen_flag → c.now < (brought_entry γ c).word
      → RefusedBy γ 9 s c

  -- "Leaving the count out of the tag, so an old page still matches": after an accepted update c of a group, and any events but a new
  -- salt, an update d of that group that brings the page and tag of c again is refused
  unfoldable pub OldPageRefused : Type 0
  OldPageRefused = (s : Box) (c : Command) (es : List Event) (d : Command) (u v : Update) → kind_of c ≡ Change u → kind_of d ≡ Change v
      → Accepted γ s c → Throughout γ SaltStays (step γ s c).box es → group_of γ d.block ≡ group_of γ c.block → d.proof ≡ c.proof
      → TagsDiffer s.memory (run γ (step γ s c).box es).memory (group_of γ c.block) (brought_page γ c.proof)
      → RefusedBy γ 7 (run γ (step γ s c).box es) d

  -- "A restart that keeps the count, so the server's copy of the lost page still matches": after an accepted update c whose page is
  -- held, a restart r, and any events but a new salt, an update d that brings what c answered is refused. A page that left by itself is
  -- not lost (document 02, Q-4): see Leaving.antt
  unfoldable pub LostPageRefused : Type 0
  LostPageRefused = (s : Box) (c r : Command) (es : List Event) (d : Command) (u v : Update) → kind_of c ≡ Change u → r.kind ≡ 8
      → kind_of d ≡ Change v → Accepted γ s c → held γ (step γ s c).box.memory ≡ group_of γ c.block → Accepted γ (step γ s c).box r
      → Throughout γ SaltStays (step γ (step γ s c).box r).box es
      → group_of γ d.block ≡ group_of γ c.block → d.proof ≡ (step γ s c).answer
      → TagsDiffer (step γ s c).box.memory (run γ (step γ (step γ s c).box r).box es).memory (group_of γ c.block)
      (brought_page γ (step γ s c).answer)
      → RefusedBy γ 7 (run γ (step γ (step γ s c).box r).box es) d

  -- "Sending block 64 to physical 64, on top of a page": at base, the first block of group 1 and the page of group 0
  pub record OnNoPage : Type 0 where
    pub not_at_page_0 : physical γ (group_data γ) ≡ group_data γ → ⊥
    pub on_no_page : (a g : ℕ) → physical γ a ≡ page_block γ g → ⊥

  -- "A second unfreeze that starts the countdown afresh": after an accepted unfreeze c, one of the same block that brings no forged
  -- page is refused. A proof is bytes
  unfoldable pub SecondUnfreezeRefused : Type 0
  SecondUnfreezeRefused = (s : Box) (c d : Command) → c.kind ≡ 5 → d.kind ≡ 5 → d.block ≡ c.block → AreBytes c.proof
      → Accepted γ s c → Unforged γ (step γ s c).box (Given d) → RefusedBy γ 9 (step γ s c).box d

  pub record Shortcuts : Type 0 where
    pub not_free_before_expiry : NotFreeBeforeExpiry
    pub old_page_refused : OldPageRefused
    pub lost_page_refused : LostPageRefused
    pub on_no_page : OnNoPage
    pub second_unfreeze_refused : SecondUnfreezeRefused
