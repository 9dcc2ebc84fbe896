-- A log block is read back: its records are those that it was made of and, behind them, unused ones, which name no part; its pointer is the
-- one that it was made with. Assumes nothing.
use mathlib.Core.Path.{◌≡◌, refl, ap, ap₂, sym, ◌∙◌}
use mathlib.Core.Bool.{Bool, true, false, true≢false}
use mathlib.Core.List.{List, [], ◌∷◌, ◌++◌, append_assoc, append-nil}
use Prim.Native.Nat.{ℕ, zero, suc, ◌+◌, ◌-◌, ◌*◌, ◌^◌, ◌≤◌, ◌<◌}
use native.Mathlib.Nat.{add-zero}
use native.Mathlib.Omega.{arith}
use lib.ListN.{length, length-append}
use Rattle.octets.specs.Part.{repeated}
use Rattle.octets.specs.Number.{number, bytes, number_at}
use Rattle.octets.proofs.PartLaw.{part_left, part_right}
use Rattle.octets.proofs.RepeatedLaw.{repeated_length, repeated_part}
use Rattle.octets.proofs.NumberLaw.{bytes_length}
use Rattle.lockpage.specs.Geometry.{Geometry}
use Rattle.machine.specs.Query.{listed}
use Rattle.machine.proofs.ListedLaw.{listed_split}
use Rattle.versions_machine.specs.Versions.{no_block, Record, record_of}
use Rattle.versions_machine.specs.Log.{record_field, record_size, record_bytes, records_bytes, record_at, pointer_size, unused, records_per_block, log_block}
use Rattle.versions_machine.specs.Log.{records_read, pointer_read}
use Rattle.versions_machine.specs.Allocation.{those}
use Rattle.versions_machine.specs.History.{Each}
use Rattle.versions_machine.proofs.AllocationLaw.{those_append}
use Rattle.versions_machine.proofs.LogLaw.{record_length, records_length}
use Rattle.versions_bytes.proofs.PlaceLaw.{Place, here, alone, between, behind, place_number}

-- a record whose part and block have their four bytes
pub record Small (x : Record) : Type 0 where
  pub part : x.part < 256 ^ record_field
  pub block : x.block < 256 ^ record_field

-- ---- one record

record_read : (front back : List ℕ) (x : Record) (at : ℕ) → length front ≡ at → Small x → record_at (front ++ (record_bytes x ++ back)) at ≡ x
unfolding record_bytes
record_read front back x at e small =
    let p = bytes record_field x.part in
    let b = bytes record_field x.block in
    let whole : front ++ ((p ++ b) ++ back) ≡ front ++ (p ++ (b ++ back)) = ap (λ (l : List ℕ). front ++ l) (append_assoc p b back) in
    let behind-part : Place (λ m. front ++ (p ++ (m ++ back))) (at + record_field) =
    behind front (at + record_field) (omega arith) (behind p record_field (omega (arith, bytes_length record_field x.part)) (here back)) in
    ap (λ (l : List ℕ). record_at l at) whole
    ∙ ap₂ record_of
    (place_number (between front (b ++ back) at e) record_field x.part small.part)
    (place_number behind-part record_field x.block small.block)

-- ---- the records

records_read_lem : (front back : List ℕ) (xs : List Record) (k : ℕ) → length front ≡ record_size * k → Each Small xs
    → listed (λ i. record_at (front ++ (records_bytes xs ++ back)) (record_size * i)) k (length xs) ≡ xs
unfolding records_bytes listed
records_read_lem front back [] k e small = refl
records_read_lem front back (x ∷ xs) k e small =
    let more = records_bytes xs ++ back in
    let read : List ℕ → ℕ → Record = λ l i. record_at l (record_size * i) in
    let split : front ++ ((record_bytes x ++ records_bytes xs) ++ back) ≡ front ++ (record_bytes x ++ more) =
    ap (λ (l : List ℕ). front ++ l) (append_assoc (record_bytes x) (records_bytes xs) back) in
    let split-on = split ∙ sym (append_assoc front (record_bytes x) more) in
    ap₂ (λ (y : Record) (ys : List Record). y ∷ ys)
    (ap (λ (l : List ℕ). read l k) split ∙ record_read front more x (record_size * k) e small.0)
    (ap (λ (l : List ℕ). listed (read l) (suc k) (length xs)) split-on
    ∙ records_read_lem (front ++ record_bytes x) back xs (suc k) (length-append front (record_bytes x) ∙ omega (arith, record_length x)) small.1)

-- ---- those not used

all_ones : number (repeated record_field unused) ≡ no_block
unfolding number repeated
all_ones = refl

unused_read : (front back : List ℕ) (m i : ℕ) → i < m
    → (record_at (front ++ (repeated (record_size * m) unused ++ back)) (length front + record_size * i)).part ≡ no_block
unfolding number_at
unused_read front back m i h =
    let l = repeated (record_size * m) unused in
    ap number
    (part_right front (l ++ back) (record_size * i) record_field
    ∙ part_left l back (record_size * i) record_field (omega (arith, repeated_length (record_size * m) unused))
    ∙ repeated_part (record_size * m) unused (record_size * i) record_field (omega arith))
    ∙ all_ones

-- ---- where none passes

those_none : {A : Type 0} (test : A → Bool) (f : ℕ → A) (i n : ℕ) → ((j : ℕ) → j < n → test (f (i + j)) ≡ false) → those test (listed f i n) ≡ []
unfolding those listed
those_none test f i zero h = refl
those_none {A} test f i (suc n) h =
    go (test (f i)) (ap (λ (j : ℕ). test (f j)) (sym (add-zero i)) ∙ h 0 (omega arith)) (those_none test f (suc i) n (λ j l. later j l))
  where
    later : (j : ℕ) → j < n → test (f (suc i + j)) ≡ false
    later j l =
        let on : suc i + j ≡ i + suc j = omega arith in
        ap (λ (k : ℕ). test (f k)) on ∙ h (suc j) (omega arith)

    go : (b : Bool) → b ≡ false → those test (listed f (suc i) n) ≡ []
        → ◌≡◌ {A = List A} (elim b [ true ↦ f i ∷ those test (listed f (suc i) n) | false ↦ those test (listed f (suc i) n) ]) []
    go true e r = absurd (true≢false e)
    go false e r = r

-- ---- a log block

module _ (γ : Geometry) where
  -- with a test that an unused record doesn't pass
  pub block_records : (test : Record → Bool) (xs : List Record) (pointer : ℕ) → ((x : Record) → x.part ≡ no_block → test x ≡ false)
      → length xs ≤ records_per_block γ → Each Small xs → those test (records_read γ (log_block γ xs pointer)) ≡ those test xs
  unfolding records_read log_block
  block_records test xs pointer fails few small =
      let m = records_per_block γ - length xs in
      let end = bytes pointer_size pointer in
      let l = records_bytes xs ++ (repeated (record_size * m) unused ++ end) in
      let read : ℕ → Record = λ i. record_at l (record_size * i) in
      let size : record_size * length xs ≡ length (records_bytes xs) = sym (records_length xs) in
      let none : (j : ℕ) → j < m → test (read (0 + length xs + j)) ≡ false =
      λ j h.
      fails (read (0 + length xs + j))
      (ap (λ (at : ℕ). (record_at l at).part) (omega (arith, size)) ∙ unused_read (records_bytes xs) end m j h) in
      ap (those test) (listed_split read 0 (length xs) m (records_per_block γ) (omega arith))
      ∙ those_append test (listed read 0 (length xs)) (listed read (0 + length xs) m)
      ∙ ap₂ ◌++◌
      (ap (those test) (records_read_lem [] (repeated (record_size * m) unused ++ end) xs 0 refl small))
      (those_none test read (0 + length xs) m none)
      ∙ append-nil (those test xs)

  pub block_pointer : (xs : List Record) (pointer : ℕ) → length xs ≤ records_per_block γ → pointer < 256 ^ pointer_size
      → pointer_read γ (log_block γ xs pointer) ≡ pointer
  unfolding pointer_read log_block
  block_pointer xs pointer few small =
      let rest = repeated (record_size * (records_per_block γ - length xs)) unused in
      let size = repeated_length (record_size * (records_per_block γ - length xs)) unused in
      let place : Place (λ m. records_bytes xs ++ (rest ++ m)) (record_size * records_per_block γ) =
      behind (records_bytes xs) (record_size * records_per_block γ) (omega (arith, records_length xs))
      (behind rest (record_size * (records_per_block γ - length xs)) (omega (arith, size)) alone) in
      place_number place pointer_size pointer small
