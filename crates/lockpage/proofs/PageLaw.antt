-- Laws of pages: an entry after a store at the same place and at another, lengths, bytes, the blank page. Assumes nothing.
use mathlib.Core.Path.{◌≡◌, refl, ap, ap₂, sym, ◌∙◌}
use mathlib.Core.List.{List, ◌++◌, append_assoc, append-nil}
use Prim.Native.Nat.{ℕ, zero, suc, ◌+◌, ◌*◌, ◌≤◌, ◌<◌}
use native.Mathlib.Nat.{add-zero}
use native.Mathlib.Numerals.{add-one}
use native.Mathlib.Omega.{arith}
use lib.ListN.{length, length-append}
use Rattle.octets.specs.Part.{AreBytes, part, replaced}
use Rattle.octets.specs.Number.{number, number_at, with_number, bytes}
use Rattle.octets.proofs.BelowLaw.{below_none, below_append, below_part, below_replaced}
use Rattle.octets.proofs.PartLaw.{part_part, part_first, part_right}
use Rattle.octets.proofs.NumberLaw.{bytes_length}
use Rattle.octets.proofs.ReplacedLaw.{replaced_length, part_same, item_other, replaced_append, replaced_all, replaced_none}
use Rattle.lockpage.specs.Geometry.{Geometry, Proper}
use Rattle.lockpage.specs.declared.Entry.{Entry}
use Rattle.lockpage.specs.Size.{word_size, entry_size, page_size}
use Rattle.lockpage.specs.Entry.{entry, entry_bytes, entry_of, EntryFits}
use Rattle.lockpage.specs.Page.{entry_at, with_entry, repeated_entry, blank_entry, blank_page}
use Rattle.lockpage.proofs.EntryLaw.{entry_bytes_length, entry_bytes_are, entry_of_bytes, entry_of_fits}

module _ (p : List ℕ) (i : ℕ) (e : Entry) (inside : entry_size * i + entry_size ≤ length p) where
  pub with_entry_length : length (with_entry p i e) ≡ length p
  unfolding with_entry
  with_entry_length = replaced_length p (entry_size * i) (entry_bytes e) (omega (arith, entry_bytes_length e))

  pub with_entry_are : AreBytes p → AreBytes (with_entry p i e)
  unfolding with_entry
  with_entry_are b = below_replaced 256 p (entry_size * i) (entry_bytes e) b (entry_bytes_are e)

  pub entry_at_same : EntryFits e → entry_at (with_entry p i e) i ≡ e
  unfolding entry_at with_entry
  entry_at_same f =
      ap entry_of (part_same p (entry_size * i) (entry_bytes e) entry_size (entry_bytes_length e) inside) ∙ entry_of_bytes e f

  pub entry_at_other : (j : ℕ) → (j ≡ i → ⊥) → entry_at (with_entry p i e) j ≡ entry_at p j
  unfolding entry_at with_entry
  entry_at_other j n = ap entry_of (item_other p entry_size i (entry_bytes e) (entry_bytes_length e) inside j n)

-- an entry of a list of bytes, however long, has its eight bytes
pub entry_at_fits : (p : List ℕ) (i : ℕ) → AreBytes p → EntryFits (entry_at p i)
unfolding entry_at
entry_at_fits p i b = entry_of_fits (part p (entry_size * i) entry_size) (below_part 256 p (entry_size * i) entry_size b)

-- an entry at the front of a list
pub entry_at_front : (e : Entry) (l : List ℕ) → EntryFits e → entry_at (entry_bytes e ++ l) 0 ≡ e
unfolding entry_at
entry_at_front e l f = ap entry_of (part_first (entry_bytes e) l entry_size (entry_bytes_length e)) ∙ entry_of_bytes e f

-- ---- loads and stores, as the code makes them

pub entry_loaded : (p : List ℕ) (i w s : ℕ) → w ≡ number_at p (entry_size * i) word_size
    → s ≡ number_at p (entry_size * i + word_size) word_size
    → entry w s ≡ entry_at p i
unfolding entry_at entry_of number_at
entry_loaded p i w s ew es =
    ap₂ entry
    (ew
    ∙ ap (λ (at : ℕ). number (part p at word_size)) (sym (add-zero (entry_size * i)))
    ∙ ap number (sym (part_part p (entry_size * i) entry_size 0 word_size (omega arith))))
    (es ∙ ap number (sym (part_part p (entry_size * i) entry_size word_size word_size (omega arith))))

pub entry_stored : (p q r : List ℕ) (i : ℕ) (e : Entry) → entry_size * i + entry_size ≤ length p
    → q ≡ with_number p (entry_size * i) word_size e.word → r ≡ with_number q (entry_size * i + word_size) word_size e.stamp
    → r ≡ with_entry p i e
unfolding with_entry entry_bytes with_number
entry_stored p q r i e h eq er =
    let w : List ℕ = bytes word_size e.word in
    let s : List ℕ = bytes word_size e.stamp in
    let at : ℕ = entry_size * i in
    er
    ∙ ap₂ (λ (x : List ℕ) (n : ℕ). replaced x (at + n) s) eq (sym (bytes_length word_size e.word))
    ∙ replaced_append p at w s (omega (arith, bytes_length word_size e.word, bytes_length word_size e.stamp))

-- ---- n times the same entry

pub repeated_entry_length : (n : ℕ) (e : Entry) → length (repeated_entry n e) ≡ entry_size * n
unfolding repeated_entry
repeated_entry_length zero e = refl
repeated_entry_length (suc n) e = length-append (entry_bytes e) (repeated_entry n e) ∙ omega (arith, entry_bytes_length e, repeated_entry_length n e)

repeated_entry_are : (n : ℕ) (e : Entry) → AreBytes (repeated_entry n e)
unfolding repeated_entry
repeated_entry_are zero e = below_none 256 (omega arith)
repeated_entry_are (suc n) e = below_append 256 (entry_bytes e) (repeated_entry n e) (entry_bytes_are e) (repeated_entry_are n e)

-- one more at the end
repeated_entry_more : (n : ℕ) (e : Entry) → repeated_entry n e ++ entry_bytes e ≡ repeated_entry (suc n) e
unfolding repeated_entry
repeated_entry_more zero e = sym (append-nil (entry_bytes e))
repeated_entry_more (suc n) e =
    append_assoc (entry_bytes e) (repeated_entry n e) (entry_bytes e) ∙ ap (λ (l : List ℕ). entry_bytes e ++ l) (repeated_entry_more n e)

repeated_entry_at : (n : ℕ) (e : Entry) (i : ℕ) → i < n → part (repeated_entry n e) (entry_size * i) entry_size ≡ entry_bytes e
unfolding repeated_entry
repeated_entry_at zero e i h = absurd (omega arith)
repeated_entry_at (suc n) e zero h = part_first (entry_bytes e) (repeated_entry n e) entry_size (entry_bytes_length e)
repeated_entry_at (suc n) e (suc i) h =
    let place : entry_size * suc i ≡ length (entry_bytes e) + entry_size * i = omega (arith, entry_bytes_length e) in
    ap (λ (at : ℕ). part (entry_bytes e ++ repeated_entry n e) at entry_size) place
    ∙ part_right (entry_bytes e) (repeated_entry n e) (entry_size * i) entry_size
    ∙ repeated_entry_at n e i (omega arith)

-- the first entry of a list
pub with_entry_first : (l : List ℕ) (e : Entry) → with_entry l 0 e ≡ replaced l 0 (entry_bytes e)
unfolding with_entry
with_entry_first l e = refl

-- stored one by one: the first
pub repeated_entry_start : (p : List ℕ) (e : Entry) → p ≡ replaced p 0 (repeated_entry 0 e)
unfolding repeated_entry
repeated_entry_start p e = sym (replaced_none p 0)

-- γ is any proper geometry
module _ {γ : Geometry} (σ : Proper γ) where
  -- a page holds each of its entries
  pub entry_within : (p : List ℕ) (i : ℕ) → length p ≡ page_size γ → i < γ.entries → entry_size * i + entry_size ≤ length p
  entry_within p i l h = omega arith

  pub blank_page_length : length (blank_page γ) ≡ page_size γ
  unfolding blank_page
  blank_page_length = repeated_entry_length γ.entries blank_entry

  pub blank_page_are : AreBytes (blank_page γ)
  unfolding blank_page
  blank_page_are = repeated_entry_are γ.entries blank_entry

  pub blank_page_at : (i : ℕ) → i < γ.entries → entry_at (blank_page γ) i ≡ blank_entry
  unfolding blank_page entry_at
  blank_page_at i h =
      ap entry_of (repeated_entry_at γ.entries blank_entry i h) ∙ entry_of_bytes blank_entry (record { word = omega arith; stamp = omega arith })

  -- stored one by one: the next, the last
  pub repeated_entry_step : (p q r : List ℕ) (i : ℕ) (e : Entry) → length p ≡ page_size γ → i < γ.entries → q ≡ replaced p 0 (repeated_entry i e)
      → r ≡ with_entry q i e → r ≡ replaced p 0 (repeated_entry (i + 1) e)
  unfolding with_entry
  repeated_entry_step p q r i e l h eq er =
      let size = repeated_entry_length i e in
      let place : entry_size * i ≡ 0 + length (repeated_entry i e) = omega (arith, size) in
      er
      ∙ ap₂ (λ (x : List ℕ) (at : ℕ). replaced x at (entry_bytes e)) eq place
      ∙ replaced_append p 0 (repeated_entry i e) (entry_bytes e) (omega (arith, size, entry_bytes_length e))
      ∙ ap (replaced p 0) (repeated_entry_more i e ∙ ap (λ (n : ℕ). repeated_entry n e) (sym (add-one i)))

  pub repeated_entry_end : (p q : List ℕ) (i : ℕ) → length p ≡ page_size γ → i ≡ γ.entries
      → q ≡ replaced p 0 (repeated_entry i blank_entry) → q ≡ blank_page γ
  unfolding blank_page
  repeated_entry_end p q i l n eq =
      eq ∙ ap (λ (k : ℕ). replaced p 0 (repeated_entry k blank_entry)) n
      ∙ replaced_all p (repeated_entry γ.entries blank_entry) (repeated_entry_length γ.entries blank_entry ∙ sym l)
