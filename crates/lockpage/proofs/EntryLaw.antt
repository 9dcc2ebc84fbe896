-- Laws of entries: both round trips, their bytes, what a stamp says. Assumes nothing.
use mathlib.Core.Path.{◌≡◌, ap, ap₂, sym, ◌∙◌}
use mathlib.Core.Bool.{true, false}
use mathlib.Core.List.{List, ◌++◌}
use Prim.Native.Nat.{ℕ, ◌+◌, ◌%◌, ◌≤◌, ◌<◌}
use native.Mathlib.Omega.{arith}
use borrow.Author.Tests.{eqb-true, eqb-false, eq-eqb, ne_eqb}
use lib.ListN.{length, length-append}
use Rattle.octets.specs.Part.{AreBytes, part}
use Rattle.octets.specs.Number.{bytes, number, number_at}
use Rattle.octets.proofs.BelowLaw.{below_append, below_part}
use Rattle.octets.proofs.PartLaw.{part_first, part_second, part_length, part_add, part_all}
use Rattle.octets.proofs.NumberLaw.{bytes_length, bytes_are, number_bytes, bytes_number, number_at_small}
use Rattle.lockpage.specs.declared.Entry.{Entry}
use Rattle.lockpage.specs.Size.{word_size, entry_size}
use Rattle.lockpage.specs.Entry.{entry, entry_bytes, entry_of, EntryFits, stamp_of, time_of_write, flag, frozen_flag, unfrozen_flag, is_frozen}

pub entry_bytes_length : (e : Entry) → length (entry_bytes e) ≡ entry_size
unfolding entry_bytes
entry_bytes_length e =
    length-append (bytes word_size e.word) _ ∙ ap₂ ◌+◌ (bytes_length word_size e.word) (bytes_length word_size _)

pub entry_bytes_are : (e : Entry) → AreBytes (entry_bytes e)
unfolding entry_bytes
entry_bytes_are e =
    below_append 256 (bytes word_size e.word) _ (bytes_are word_size e.word) (bytes_are word_size _)

-- ---- round trips

pub entry_of_bytes : (e : Entry) → EntryFits e → entry_of (entry_bytes e) ≡ e
unfolding entry_of entry_bytes number_at
entry_of_bytes e h =
    let w : List ℕ = bytes word_size e.word in
    let s : List ℕ = bytes word_size e.stamp in
    ap₂ entry
    (ap number (part_first w s word_size (bytes_length word_size e.word)) ∙ number_bytes word_size e.word h.word)
    (ap number (part_second w s word_size word_size (bytes_length word_size e.word) (bytes_length word_size e.stamp))
    ∙ number_bytes word_size e.stamp h.stamp)

-- the bytes of the number in a part are the part
own : (l : List ℕ) (at : ℕ) → AreBytes l → at + word_size ≤ length l → bytes word_size (number_at l at word_size) ≡ part l at word_size
unfolding number_at
own l at b h =
    ap (λ (n : ℕ). bytes n (number (part l at word_size))) (sym (part_length l at word_size h))
    ∙ bytes_number (part l at word_size) (below_part 256 l at word_size b)

pub bytes_entry_of : (l : List ℕ) → AreBytes l → length l ≡ entry_size → entry_bytes (entry_of l) ≡ l
unfolding entry_of entry_bytes
bytes_entry_of l b e =
    ap₂ ◌++◌ (own l 0 b (omega arith)) (own l word_size b (omega arith))
    ∙ sym (part_add l 0 word_size word_size)
    ∙ part_all l entry_size (omega arith)

pub entry_of_fits : (l : List ℕ) → AreBytes l → EntryFits (entry_of l)
unfolding entry_of
entry_of_fits l b = record { word = number_at_small l 0 word_size b; stamp = number_at_small l word_size word_size b }

-- ---- the stamp

pub time_of_write_stamp_of : (w time f : ℕ) → f < 2 → time_of_write (entry w (stamp_of time f)) ≡ time
unfolding time_of_write
time_of_write_stamp_of w time f h = omega arith

pub flag_stamp_of : (time f : ℕ) → f < 2 → flag (stamp_of time f) ≡ f
unfolding flag
flag_stamp_of time f h = omega arith

pub frozen_true : (stamp : ℕ) → is_frozen stamp ≡ true → flag stamp ≡ frozen_flag
unfolding is_frozen
frozen_true stamp h = eqb-true (flag stamp) frozen_flag h

pub frozen_false : (stamp : ℕ) → is_frozen stamp ≡ false → flag stamp ≡ unfrozen_flag
unfolding is_frozen flag
frozen_false stamp h = omega (arith, eqb-false (stamp % 2) frozen_flag h)

pub frozen_yes : (stamp : ℕ) → flag stamp ≡ frozen_flag → is_frozen stamp ≡ true
unfolding is_frozen
frozen_yes stamp h = eq-eqb (flag stamp) frozen_flag h

pub frozen_no : (stamp : ℕ) → flag stamp ≡ unfrozen_flag → is_frozen stamp ≡ false
unfolding is_frozen
frozen_no stamp h = ne_eqb (flag stamp) frozen_flag (λ z. absurd (omega arith))
