-- What a reader wants to know of the definitions. Each claim is a type; its proof has the claim's name in proofs/Theorems.antt.
use Rattle.std.specs.Prelude.{ℕ, suc, ◌+◌, ◌-◌, ◌/◌, ◌≤◌, ◌<◌, ◌≡◌, true, List, [], ◌∷◌, length, pos, negsuc}
use Rattle.octets.specs.Part.{AreBytes}
use Rattle.lockpage.specs.declared.Entry.{Entry}
use Rattle.lockpage.specs.declared.State.TheVariants.{Free, Frozen, Counting}
use Rattle.lockpage.specs.declared.Update.{Update}
use Rattle.lockpage.specs.declared.Update.TheVariants.{Unfreeze}
use Rattle.lockpage.specs.Geometry.{Geometry, base}
use Rattle.lockpage.specs.Size.{entry_size, page_size, block_size}
use Rattle.lockpage.specs.Entry.{entry_bytes, entry_of, EntryFits, flag, frozen_flag, unfrozen_flag}
use Rattle.lockpage.specs.State.{state, time_left}
use Rattle.lockpage.specs.Update.{latest_time, longest_lock, latest_expiry, expiry_at, updated, within_limit}
use Rattle.lockpage.specs.Page.{entry_at, blank_entry, blank_page}

-- document 01's sizes: "A block is 512 bytes"; "A page has 64 entries of 8 bytes"
pub record PapersPageSizes : Type 0 where
  pub block : block_size base ≡ 512
  pub page : page_size base ≡ 512
  pub page_entries : base.entries ≡ 64
  pub entry : entry_size ≡ 8

-- document 02, Q-12: "A page has size div 8 entries"
unfoldable pub SizeDivEight : Geometry → Type 0
SizeDivEight γ = block_size γ / entry_size ≡ γ.entries

-- demand 2: "Entries read and written back give the same eight bytes, and the reverse."
unfoldable pub ReadAndWrittenBack : Type 0
ReadAndWrittenBack = (l : List ℕ) → AreBytes l → length l ≡ entry_size → entry_bytes (entry_of l) ≡ l

unfoldable pub WrittenAndReadBack : Type 0
WrittenAndReadBack = (e : Entry) → EntryFits e → entry_of (entry_bytes e) ≡ e

-- "f = 0: frozen"; "f = 1: .. Counting while now < expiry, free from expiry on": an expiry reached is free
pub record States (now : ℕ) (e : Entry) : Type 0 where
  pub is_frozen_is : flag e.stamp ≡ frozen_flag → state now e ≡ Frozen
  pub is_counting : flag e.stamp ≡ unfrozen_flag → now < e.word → state now e ≡ Counting
  pub is_free : flag e.stamp ≡ unfrozen_flag → e.word ≤ now → state now e ≡ Free

unfoldable pub StateOfEntry : Type 0
StateOfEntry = (now : ℕ) (e : Entry) → States now e

-- what an update within its limit stores has its eight bytes, so that it is what is read back
unfoldable pub UpdateFits : Type 0
UpdateFits = (u : Update) (now : ℕ) (e : Entry) → now ≤ latest_time → EntryFits e → within_limit (updated u now e) ≡ true
    → EntryFits (updated u now e)

-- document 02, Q-2: "A lock of 1 or more gets the expiry now + lock + 1; a lock of 0 stays now." An entry e unfrozen at time t counts through
-- the whole second t + lock and is free from the next on; under a lock of 0 it is free at once
pub record Unfrozen (t : ℕ) (e : Entry) : Type 0 where
  pub counts : 1 ≤ e.word → (now : ℕ) → now ≤ t + e.word → state now (updated Unfreeze t e) ≡ Counting
  pub ends : 1 ≤ e.word → (now : ℕ) → t + e.word + 1 ≤ now → state now (updated Unfreeze t e) ≡ Free
  pub at_once : e.word ≡ 0 → (now : ℕ) → t ≤ now → state now (updated Unfreeze t e) ≡ Free

unfoldable pub StateOfUnfrozen : Type 0
StateOfUnfrozen = (t : ℕ) (e : Entry) → Unfrozen t e

-- the limit of an expiry is what the longest lock gets at the latest time: no unfreeze of a lock within its limit is beyond it
pub record LargestUnfreeze : Type 0 where
  pub expiry : expiry_at latest_time longest_lock ≡ latest_expiry
  pub within : (now : ℕ) (e : Entry) → now ≤ latest_time → e.word ≤ longest_lock → within_limit (updated Unfreeze now e) ≡ true

-- the blank page is a page of blank entries, "00 00 00 00 01 00 00 00", and a block with such an entry is free at every time
pub record Blank (γ : Geometry) : Type 0 where
  pub bytes : entry_bytes blank_entry ≡ 0 ∷ 0 ∷ 0 ∷ 0 ∷ 1 ∷ 0 ∷ 0 ∷ 0 ∷ []
  pub free : (now : ℕ) → state now blank_entry ≡ Free
  pub size : length (blank_page γ) ≡ page_size γ
  pub each : (i : ℕ) → i < γ.entries → entry_at (blank_page γ) i ≡ blank_entry

-- the time left of an unfrozen block: "expiry minus now, negative once past"
pub record Left (now : ℕ) (e : Entry) : Type 0 where
  pub ahead : now ≤ e.word → time_left now e ≡ pos (e.word - now)
  pub past : (k : ℕ) → now ≡ e.word + suc k → time_left now e ≡ negsuc k

unfoldable pub LeftOfUnfrozen : Type 0
LeftOfUnfrozen = (now : ℕ) (e : Entry) → flag e.stamp ≡ unfrozen_flag → Left now e
