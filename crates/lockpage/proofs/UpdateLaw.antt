-- Laws of what an update stores: its limit, its stamp, its expiry, that it fits. Assumes nothing.
use mathlib.Core.Path.{◌≡◌, refl, ap, sym, ◌∙◌}
use mathlib.Core.Bool.{Bool, true, false, false≢true}
use Prim.Native.Nat.{ℕ, zero, suc, ◌+◌, ◌≤◌, ◌<◌, ◌^◌}
use native.Mathlib.Omega.{arith}
use borrow.Author.Tests.{leb-true, le-leb}
use lib.Dec.{leb, lit≤}
use Rattle.lockpage.specs.declared.Entry.{Entry}
use Rattle.lockpage.specs.declared.State.{State}
use Rattle.lockpage.specs.declared.State.TheVariants.{Free, Frozen, Counting}
use Rattle.lockpage.specs.declared.Update.{Update}
use Rattle.lockpage.specs.declared.Update.TheVariants.{Write, Unfreeze, Increment}
use Rattle.lockpage.specs.Size.{word_size}
use Rattle.lockpage.specs.Entry.{EntryFits, time_of_write, flag, frozen_flag, unfrozen_flag, is_frozen}
use Rattle.lockpage.specs.Update.{latest_time, longest_lock, latest_expiry, expiry_at, updated, allowed, word_limit, within_limit}
use Rattle.lockpage.proofs.EntryLaw.{flag_stamp_of, time_of_write_stamp_of, frozen_no}

-- ---- the expiry

pub expiry_none : (now lock : ℕ) → lock ≡ 0 → expiry_at now lock ≡ now
unfolding expiry_at
expiry_none now zero h = refl
expiry_none now (suc lock) h = absurd (omega arith)

pub expiry_some : (now lock : ℕ) → 1 ≤ lock → expiry_at now lock ≡ now + lock + 1
unfolding expiry_at
expiry_some now zero h = absurd (omega arith)
expiry_some now (suc lock) h = refl

-- unfrozen later, it ends no earlier
pub expiry_later : (first second lock : ℕ) → first ≤ second → expiry_at first lock ≤ expiry_at second lock
unfolding expiry_at
expiry_later first second zero h = h
expiry_later first second (suc lock) h = omega arith

-- nor under a longer lock
pub expiry_longer : (now short long : ℕ) → short ≤ long → expiry_at now short ≤ expiry_at now long
unfolding expiry_at
expiry_longer now zero zero h = omega arith
expiry_longer now zero (suc long) h = omega arith
expiry_longer now (suc short) zero h = absurd (omega arith)
expiry_longer now (suc short) (suc long) h = omega arith

-- ---- the limit

pub within_lock : (e : Entry) → is_frozen e.stamp ≡ true → leb e.word longest_lock ≡ within_limit e
unfolding within_limit word_limit
within_lock e f = rw (within_limit, word_limit, f)

pub within_expiry : (e : Entry) → is_frozen e.stamp ≡ false → leb e.word latest_expiry ≡ within_limit e
unfolding within_limit word_limit
within_expiry e f = rw (within_limit, word_limit, f)

-- a word within its limit has 4 bytes
pub within_most : (e : Entry) → within_limit e ≡ true → e.word ≤ latest_expiry
unfolding within_limit word_limit
within_most e h = go (is_frozen e.stamp) h
  where
    go : (f : Bool) → leb e.word (elim f [ true ↦ longest_lock | false ↦ latest_expiry ]) ≡ true → e.word ≤ latest_expiry
    go true t = omega (arith, leb-true e.word longest_lock t)
    go false t = leb-true e.word latest_expiry t

-- ---- what is stored

pub stamp_small : (u : Update) (now : ℕ) (e : Entry) → now ≤ latest_time → EntryFits e → (updated u now e).stamp < 256 ^ word_size
unfolding updated time_of_write
stamp_small (Write lock) now e h f = omega arith
stamp_small Unfreeze now e h f = omega (arith, f.stamp)
stamp_small (Increment value) now e h f = f.stamp

pub updated_fits : (u : Update) (now : ℕ) (e : Entry) → now ≤ latest_time → EntryFits e → within_limit (updated u now e) ≡ true
    → EntryFits (updated u now e)
updated_fits u now e h f w = record { word = omega (arith, within_most (updated u now e) w); stamp = stamp_small u now e h f }

-- a write fits whatever was there before
pub written_fits : (lock now : ℕ) (e : Entry) → now ≤ latest_time → within_limit (updated (Write lock) now e) ≡ true
    → EntryFits (updated (Write lock) now e)
unfolding updated
written_fits lock now e h w = record { word = omega (arith, within_most (updated (Write lock) now e) w); stamp = omega arith }

-- a write
pub written_word : (lock now : ℕ) (e : Entry) → (updated (Write lock) now e).word ≡ lock
unfolding updated
written_word lock now e = refl

pub written_flag : (lock now : ℕ) (e : Entry) → flag (updated (Write lock) now e).stamp ≡ frozen_flag
unfolding updated
written_flag lock now e = flag_stamp_of now frozen_flag (omega arith)

pub written_time : (lock now : ℕ) (e : Entry) → time_of_write (updated (Write lock) now e) ≡ now
unfolding updated
written_time lock now e = time_of_write_stamp_of lock now frozen_flag (omega arith)

-- an unfreeze
pub unfrozen_word : (now : ℕ) (e : Entry) → (updated Unfreeze now e).word ≡ expiry_at now e.word
unfolding updated
unfrozen_word now e = refl

pub unfrozen_flag_lem : (now : ℕ) (e : Entry) → flag (updated Unfreeze now e).stamp ≡ unfrozen_flag
unfolding updated
unfrozen_flag_lem now e = flag_stamp_of (time_of_write e) unfrozen_flag (omega arith)

pub unfrozen_time : (now : ℕ) (e : Entry) → time_of_write (updated Unfreeze now e) ≡ time_of_write e
unfolding updated
unfrozen_time now e = time_of_write_stamp_of (expiry_at now e.word) (time_of_write e) unfrozen_flag (omega arith)

-- under a lock of 1 or more it counts through the second now + lock
pub unfrozen_some : (now : ℕ) (e : Entry) → 1 ≤ e.word → (updated Unfreeze now e).word ≡ now + e.word + 1
unfrozen_some now e h = unfrozen_word now e ∙ expiry_some now e.word h

-- an unfreeze of a lock within its limit is within its own
pub unfrozen_within : (now : ℕ) (e : Entry) → now ≤ latest_time → e.word ≤ longest_lock → within_limit (updated Unfreeze now e) ≡ true
unfrozen_within now e early short =
    let longest = expiry_longer now e.word longest_lock short in
    let latest = expiry_later now latest_time longest_lock early in
    let most = expiry_some latest_time longest_lock (lit≤ tt) in
    sym (within_expiry (updated Unfreeze now e) (frozen_no (updated Unfreeze now e).stamp (unfrozen_flag_lem now e)))
    ∙ le-leb (updated Unfreeze now e).word latest_expiry (omega (arith, unfrozen_word now e, longest, latest, most))

-- an increment
pub grown_word : (value now : ℕ) (e : Entry) → (updated (Increment value) now e).word ≡ e.word + value
unfolding updated
grown_word value now e = refl

pub grown_stamp : (value now : ℕ) (e : Entry) → (updated (Increment value) now e).stamp ≡ e.stamp
unfolding updated
grown_stamp value now e = refl

pub grown_time : (value now : ℕ) (e : Entry) → time_of_write (updated (Increment value) now e) ≡ time_of_write e
unfolding updated time_of_write
grown_time value now e = refl

-- ---- what an allowed update says of the state

pub allowed_write : (lock : ℕ) (s : State) → allowed (Write lock) s ≡ true → s ≡ Free
unfolding allowed
allowed_write lock Free e = refl
allowed_write lock Frozen e = absurd (false≢true e)
allowed_write lock Counting e = absurd (false≢true e)

pub allowed_unfreeze : (s : State) → allowed Unfreeze s ≡ true → s ≡ Frozen
unfolding allowed
allowed_unfreeze Free e = absurd (false≢true e)
allowed_unfreeze Frozen e = refl
allowed_unfreeze Counting e = absurd (false≢true e)

pub allowed_increment : (value : ℕ) (s : State) → allowed (Increment value) s ≡ true → s ≡ Free → ⊥
unfolding allowed
allowed_increment value s e free = false≢true (ap (allowed (Increment value)) (sym free) ∙ e)
