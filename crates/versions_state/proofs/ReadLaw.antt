-- What is read from a state: each field is a part of its bytes, and so its bytes are those of what is read. Assumes nothing.
use mathlib.Core.Path.{◌≡◌, refl, ap, ap₂, sym, ◌∙◌}
use mathlib.Core.Bool.{Bool, true, false, not}
use Rattle.std.specs.Bool.{then_some}
use mathlib.Core.List.{List, ◌++◌}
use Rattle.std.specs.Prelude.{Some, None}
use Prim.Native.Nat.{ℕ, zero, suc, ◌+◌, ◌-◌, ◌*◌, ◌≤◌}
use native.Mathlib.Omega.{arith}
use borrow.Author.Tests.{eqb-true, le-leb}
use lib.Dec.{eqb}
use lib.ListN.{length}
use Rattle.octets.specs.Part.{AreBytes, part, repeated}
use Rattle.octets.specs.Number.{number, bytes, number_at}
use Rattle.octets.proofs.BelowLaw.{below_part}
use Rattle.octets.proofs.PartLaw.{part_length, part_add, part_all}
use Rattle.octets.proofs.NumberLaw.{bytes_number}
use Rattle.lockpage.specs.Geometry.{Geometry}
use Rattle.versions_machine.specs.Versions.{no_block, block_number, block_named}
use Rattle.versions_machine.specs.Log.{record_field, record_size, record_bytes, records_bytes, unused}
use Rattle.versions_machine.specs.Call.{last_part}
use Rattle.versions_state.specs.Layout.{field_size, lock_start, reserve_start, taken_start, record_count_start, newests_start, newest_start, parts}
use Rattle.versions_state.specs.Layout.{records_start, record_start, most_records, state_size}
use Rattle.versions_state.specs.State.{newest_bytes, records_area, state_bytes, record_count, newest_number, newest_in, record_in, records_in, versions_in}

-- a block's number, named and numbered again
named_number : (n : ℕ) → block_number (block_named n) ≡ n
named_number n = go (eqb n no_block) refl
  where
    go : (b : Bool) → eqb n no_block ≡ b → block_number (elim b [ true ↦ None | false ↦ Some n ]) ≡ n
    go true e = sym (eqb-true n no_block e)
    go false e = refl

-- a part's place has its newest block
pub newest_read : (state : List ℕ) (p : ℕ) → p ≤ last_part → newest_in state p ≡ block_named (newest_number state p)
unfolding newest_in
newest_read state p h = ap (λ (b : Bool). elim b [ true ↦ block_named (newest_number state p) | false ↦ None ]) (le-leb p last_part h)

pub newest_number_lem : (state : List ℕ) (p : ℕ) → p ≤ last_part → block_number (newest_in state p) ≡ newest_number state p
newest_number_lem state p h = ap block_number (newest_read state p h) ∙ named_number (newest_number state p)

-- as the code reads it
pub newest_loaded : (state : List ℕ) (n at p : ℕ) → p ≤ last_part → at ≡ newest_start p → n ≡ number_at state at field_size
    → then_some (not (eqb n no_block)) n ≡ (versions_in state).newest p
unfolding versions_in newest_number
newest_loaded state n at p h ea en =
    named n ∙ ap block_named (en ∙ ap (λ (k : ℕ). number_at state k field_size) ea) ∙ sym (newest_read state p h)
  where
    named : (n : ℕ) → then_some (not (eqb n no_block)) n ≡ block_named n
    named n = go (eqb n no_block)
      where
        go : (b : Bool) → then_some (not b) n ≡ elim b [ true ↦ None | false ↦ Some n ]
        go true = refl
        go false = refl

-- ---- the bytes of what is read

-- the bytes of the number in a part are the part
own : (l : List ℕ) (at k : ℕ) → AreBytes l → at + k ≤ length l → bytes k (number_at l at k) ≡ part l at k
unfolding number_at
own l at k b h =
    ap (λ (n : ℕ). bytes n (number (part l at k))) (sym (part_length l at k h)) ∙ bytes_number (part l at k) (below_part 256 l at k b)

-- two parts side by side
join : (l : List ℕ) (at j k at₂ n : ℕ) (x y : List ℕ) → at₂ ≡ at + j → n ≡ j + k → x ≡ part l at j → y ≡ part l at₂ k → x ++ y ≡ part l at n
join l at j k at₂ n x y ea en ex ey =
    ap₂ ◌++◌ ex (ey ∙ ap (λ (i : ℕ). part l i k) ea) ∙ sym (part_add l at j k) ∙ ap (part l at) (sym en)

pub records_read_lem : (state : List ℕ) (from n : ℕ) → length (records_in state from n) ≡ n
unfolding records_in
records_read_lem state from zero = refl
records_read_lem state from (suc n) = ap suc (records_read_lem state (from + 1) n)

module _ (state : List ℕ) (b : AreBytes state) where
  newest_part : (p : ℕ) → newest_start p + field_size ≤ length state → bytes field_size (newest_number state p) ≡ part state (newest_start p) field_size
  unfolding newest_number
  newest_part p h = own state (newest_start p) field_size b h

  newests_part : (from n : ℕ) → from + n ≤ parts → newest_start parts ≤ length state
      → newest_bytes (newest_in state) from n ≡ part state (newest_start from) (field_size * n)
  unfolding newest_bytes part
  newests_part from zero h e = refl
  newests_part from (suc n) h e =
      join state (newest_start from) field_size (field_size * n) (newest_start (from + 1)) (field_size * suc n) _ _ (omega arith) (omega arith)
      (ap (bytes field_size) (newest_number_lem state from (omega arith)) ∙ newest_part from (omega arith))
      (newests_part (from + 1) n (omega arith) e)

  record_part : (i : ℕ) → record_start i + record_size ≤ length state → record_bytes (record_in state i) ≡ part state (record_start i) record_size
  unfolding record_bytes record_in
  record_part i h =
      join state (record_start i) record_field record_field (record_start i + record_field) record_size _ _ refl refl
      (own state (record_start i) record_field b (omega arith)) (own state (record_start i + record_field) record_field b (omega arith))

  records_part : (from n : ℕ) → record_start (from + n) ≤ length state → records_bytes (records_in state from n) ≡ part state (record_start from) (record_size * n)
  unfolding records_bytes records_in part
  records_part from zero h = refl
  records_part from (suc n) h =
      join state (record_start from) record_size (record_size * n) (record_start (from + 1)) (record_size * suc n) _ _ (omega arith) (omega arith)
      (record_part from (omega arith)) (records_part (from + 1) n (omega arith))

  -- a state whose records have room, and are followed by FF
  module _ (γ : Geometry) (size : length state ≡ state_size γ) (few : record_count state ≤ most_records γ)
      (rest : let left = record_size * (most_records γ - record_count state) in
      part state (record_start (record_count state)) left ≡ repeated left unused) where
    area_part : records_area γ (records_in state 0 (record_count state)) ≡ part state records_start (record_size * most_records γ)
    unfolding records_area
    area_part =
        let n = record_count state in
        let left = record_size * (most_records γ - n) in
        join state records_start (record_size * n) left (record_start n) (record_size * most_records γ) _ _ refl (omega arith)
        (records_part 0 n (omega arith))
        (ap (λ (k : ℕ). repeated (record_size * (most_records γ - k)) unused) (records_read_lem state 0 n) ∙ sym rest)

    pub read_bytes : state_bytes γ (versions_in state) ≡ state
    unfolding state_bytes versions_in record_count
    read_bytes =
        let area = record_size * most_records γ in
        let newests = field_size * parts in
        let field : (at : ℕ) → at + field_size ≤ length state → bytes field_size (number_at state at field_size) ≡ part state at field_size
        = λ at h. own state at field_size b h in
        join state lock_start field_size (state_size γ - reserve_start) reserve_start (state_size γ) _ _ refl (omega arith) (field lock_start (omega arith))
        (join state reserve_start field_size (state_size γ - taken_start) taken_start (state_size γ - reserve_start) _ _ refl (omega arith)
        (field reserve_start (omega arith))
        (join state taken_start field_size (state_size γ - record_count_start) record_count_start (state_size γ - taken_start) _ _ refl (omega arith)
        (field taken_start (omega arith))
        (join state record_count_start field_size (state_size γ - newests_start) newests_start (state_size γ - record_count_start) _ _ refl (omega arith)
        (ap (bytes field_size) (records_read_lem state 0 (record_count state)) ∙ field record_count_start (omega arith))
        (join state newests_start newests area records_start (state_size γ - newests_start) _ _ refl (omega arith)
        (newests_part 0 parts (omega arith) (omega arith)) area_part))))
        ∙ part_all state (state_size γ) (omega arith)
