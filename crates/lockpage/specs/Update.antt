-- What a write, an unfreeze and an increment do to an entry, in which states they may, and how large a word they may store, after
-- document 01, "Commands", kinds 4 to 6, and "Questions", 9 and 10, and document 02, Q-2. Assumes nothing: these are definitions.
use Rattle.std.specs.Prelude.{ℕ, zero, suc, ◌+◌, Bool, true, false, leb}
use Rattle.lockpage.specs.declared.Entry.{Entry}
use Rattle.lockpage.specs.declared.State.{State}
use Rattle.lockpage.specs.declared.State.TheVariants.{Free, Frozen, Counting}
use Rattle.lockpage.specs.declared.Update.{Update}
use Rattle.lockpage.specs.declared.Update.TheVariants.{Write, Unfreeze, Increment}
use Rattle.lockpage.specs.Entry.{entry, stamp_of, time_of_write, frozen_flag, unfrozen_flag, is_frozen}

-- ---- limits

-- question 4: "at most 2,147,483,647", so that 2 × time + f has 4 bytes
abbrev pub latest_time : ℕ
latest_time = 2147483647

-- question 10: "a lock written or grown at most 2,147,483,647"
abbrev pub longest_lock : ℕ
longest_lock = 2147483647

-- document 02, Q-2: "The expiry limit in question 10 becomes 4,294,967,295."
abbrev pub latest_expiry : ℕ
latest_expiry = 4294967295

-- ---- what is stored

-- document 02, Q-2: "A lock of 1 or more gets the expiry now + lock + 1; a lock of 0 stays now."
unfoldable pub expiry_at : ℕ → ℕ → ℕ
expiry_at now zero = now
expiry_at now (suc lock) = now + suc lock + 1

-- a write: "Word = lock, stamp = 2 × now". An unfreeze: the word is the expiry, "f = 1"; the time of write stays, as the edge value
-- D1 07 has it. An increment: "word + value".
unfoldable pub updated : Update → ℕ → Entry → Entry
updated (Write lock) now e = entry lock (stamp_of now frozen_flag)
updated Unfreeze now e = entry (expiry_at now e.word) (stamp_of (time_of_write e) unfrozen_flag)
updated (Increment value) now e = entry (e.word + value) e.stamp

-- question 9: "Write: free? Unfreeze: frozen? Increment: frozen or counting?"
unfoldable pub allowed : Update → State → Bool
allowed (Write lock) Free = true
allowed (Write lock) Frozen = false
allowed (Write lock) Counting = false
allowed Unfreeze Free = false
allowed Unfreeze Frozen = true
allowed Unfreeze Counting = false
allowed (Increment value) Free = false
allowed (Increment value) Frozen = true
allowed (Increment value) Counting = true

-- question 10, of the entry that is to be stored
unfoldable pub word_limit : Entry → ℕ
word_limit e = elim (is_frozen e.stamp) [ true ↦ longest_lock | false ↦ latest_expiry ]

unfoldable pub within_limit : Entry → Bool
within_limit e = leb e.word (word_limit e)
