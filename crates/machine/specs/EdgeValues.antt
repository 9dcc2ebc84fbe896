-- The starred values of document 01, "Edge values", two of them as document 02, Q-2, has them. Each row has what the definitions give on
-- the left and what the papers say on the right, bytes in decimal. The one fact is proofs/Theorems.antt, edge-values.
use Rattle.std.specs.Prelude.{◌≡◌, [], ◌∷◌, ℕ, pos}
use Rattle.octets.specs.Number.{bytes}
use Rattle.lockpage.specs.Geometry.{base}
use Rattle.lockpage.specs.Size.{word_size}
use Rattle.lockpage.specs.declared.Entry.{Entry}
use Rattle.lockpage.specs.declared.State.TheVariants.{Free, Counting}
use Rattle.lockpage.specs.declared.Update.TheVariants.{Write, Unfreeze, Increment}
use Rattle.lockpage.specs.Entry.{entry, entry_bytes, stamp_of, unfrozen_flag}
use Rattle.lockpage.specs.State.{state, time_left, time_left_bytes}
use Rattle.lockpage.specs.Update.{updated}
use Rattle.lockpage.specs.Page.{blank_entry}
use Rattle.addressing.specs.Map.{physical, page_block}
use Rattle.addressing.specs.Claims.{PapersMap}
use Rattle.machine.specs.Command.{Box, Command}
use Rattle.machine.specs.Step.{step, Accepted}

-- "Lock 500 written at 1000", "Unfrozen at 1200", "Increment 100"
abbrev pub written_entry : Entry
written_entry = updated (Write 500) 1000 blank_entry

abbrev pub unfrozen_entry : Entry
unfrozen_entry = updated Unfreeze 1200 written_entry

abbrev pub grown_entry : Entry
grown_entry = updated (Increment 100) 1200 unfrozen_entry

-- "Expiry 1700": of an entry with that word, whatever wrote it
abbrev pub expiring : ℕ → Entry
expiring time = entry 1700 (stamp_of time unfrozen_flag)

-- "Lock 0 unfrozen at 1200"
abbrev pub unlocked : Entry
unlocked = updated Unfreeze 1200 (updated (Write 0) 1000 blank_entry)

-- a command with another value, which is a write's lock
abbrev pub locking : Command → ℕ → Command
locking c lock =
    record {
      kind = c.kind;
      block = c.block;
      now = c.now;
      value = lock;
      content = c.content;
      proof = c.proof;
      answer = c.answer;
    }

pub record EdgeValues : Type 0 where
  -- "63 lies at 63; 64 at 65; 1,023 at 1,038; the page of group 15 at 1,039."
  pub block_63 : physical base 63 ≡ 63
  pub block_64 : physical base 64 ≡ 65
  pub block_1023 : physical base 1023 ≡ 1038
  pub page_15 : page_block base 15 ≡ 1039
  -- and every block: document 02, Q-5
  pub every_block : PapersMap base
  -- "F4 01 00 00 D0 07 00 00"
  pub written_bytes : entry_bytes written_entry ≡ 244 ∷ 1 ∷ 0 ∷ 0 ∷ 208 ∷ 7 ∷ 0 ∷ 0 ∷ []
  -- document 02, Q-2: "the case A4 06 becomes A5 06": A5 06 00 00 D1 07 00 00
  pub unfrozen_bytes : entry_bytes unfrozen_entry ≡ 165 ∷ 6 ∷ 0 ∷ 0 ∷ 209 ∷ 7 ∷ 0 ∷ 0 ∷ []
  -- "and the increment after it 09 07": 09 07 00 00, the word
  pub grown_word : bytes word_size grown_entry.word ≡ 9 ∷ 7 ∷ 0 ∷ 0 ∷ []
  -- "Expiry 1700: at 1650, 50 left": counting
  pub before_left : (time : ℕ) → time_left 1650 (expiring time) ≡ pos 50
  pub before_state : (time : ℕ) → state 1650 (expiring time) ≡ Counting
  -- "at 1700, 0 and free"
  pub reached_left : (time : ℕ) → time_left 1700 (expiring time) ≡ pos 0
  pub reached_state : (time : ℕ) → state 1700 (expiring time) ≡ Free
  -- "at 1750, CE FF FF FF FF FF FF FF"
  pub past_left : (time : ℕ) → time_left_bytes 1750 (expiring time) ≡ 206 ∷ 255 ∷ 255 ∷ 255 ∷ 255 ∷ 255 ∷ 255 ∷ 255 ∷ []
  -- "Lock 0 unfrozen at 1200 is free at 1200."
  pub unlocked_state : state 1200 unlocked ≡ Free
  -- "Lock 2,147,483,647 passes, 2,147,483,648 gets 10": wherever a write with lock 0 passes
  pub longest_lock_is : (s : Box) (c : Command) → c.kind ≡ 4 → Accepted base s (locking c 0) → Accepted base s (locking c 2147483647)
  pub longer_lock : (s : Box) (c : Command) → c.kind ≡ 4 → Accepted base s (locking c 0) → (step base s (locking c 2147483648)).number ≡ 10
