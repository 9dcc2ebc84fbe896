-- What the code looks at in a state, in the order in which it looks. Assumes nothing.
use mathlib.Core.Path.{◌≡◌, refl, ap, ap₂, sym, ◌∙◌}
use mathlib.Core.Bool.{Bool, true, false, ◌&&◌, ◌||◌}
use mathlib.Core.List.{List, all}
use Rattle.std.specs.Prelude.{Option, Some, None}
use Rattle.std.specs.List.{list_all, range_with_len}
use Rattle.std.proofs.lemmas.Option.{same_Some, none-some}
use Prim.Native.Nat.{ℕ, zero, suc, ◌+◌, ◌*◌, ◌≤◌, ◌<◌}
use native.Mathlib.Numerals.{add-one}
use native.Mathlib.Omega.{arith}
use Rattle.std.proofs.Math.Bool.{and_assoc, and-true}
use borrow.Author.Tests.{le-leb, lt-leb}
use lib.Dec.{eqb, leb, ltb}
use Rattle.octets.specs.Number.{number_at}
use Rattle.lockpage.specs.Geometry.{present}
use Rattle.machine.specs.Query.{listed}
use Rattle.addressing.specs.Map.{data_blocks}
use Rattle.machine.proofs.ListedLaw.{all_none, all_cons}
use Rattle.versions_machine.specs.Versions.{no_block, block_named, Record}
use Rattle.versions_machine.specs.Log.{record_field}
use Rattle.versions_machine.specs.Allocation.{blocks_from}
use Rattle.versions_machine.specs.Call.{last_part}
use Rattle.versions_state.specs.Layout.{parts, record_start}
use Rattle.versions_state.specs.State.{newest_number, record_in, records_in, versions_in, is_block, is_newest, is_record, newests_fit}
use Rattle.versions_state.proofs.ReadLaw.{newest_read}

-- ---- a block

-- layout::MOST_BLOCKS
abbrev most_blocks : ℕ
most_blocks = present.entries * present.most_groups

block_below : (block : ℕ) → is_block present block ≡ ltb block most_blocks
unfolding data_blocks
block_below block = refl

-- a number in a part's place, and the block that it names, if it names one
none_named : (n : ℕ) → block_named n ≡ None → is_newest present n ≡ true
none_named n e = go (eqb n no_block) refl e
  where
    go : (b : Bool) → eqb n no_block ≡ b → ◌≡◌ {A = Option ℕ} (elim b [ true ↦ None | false ↦ Some n ]) None → is_newest present n ≡ true
    go true t e = ap (λ (x : Bool). x || is_block present n) t
    go false t e = absurd (none-some n (sym e))

block_named_fits : (n block : ℕ) → block_named n ≡ Some block → is_newest present n ≡ is_block present block
block_named_fits n block e = go (eqb n no_block) refl e
  where
    go : (b : Bool) → eqb n no_block ≡ b → ◌≡◌ {A = Option ℕ} (elim b [ true ↦ None | false ↦ Some n ]) (Some block)
        → is_newest present n ≡ is_block present block
    go true t e = absurd (none-some block e)
    go false t e = ap (λ (x : Bool). x || is_block present n) t ∙ ap (is_block present) (same_Some n block e)

module _ (state : List ℕ) (p : ℕ) (h : p ≤ last_part) where
  pub none_fits : (versions_in state).newest p ≡ None → is_newest present (newest_number state p) ≡ true
  unfolding versions_in
  none_fits e = none_named (newest_number state p) (sym (newest_read state p h) ∙ e)

  pub block_fits : (block : ℕ) → (versions_in state).newest p ≡ Some block → is_newest present (newest_number state p) ≡ ltb block most_blocks
  unfolding versions_in
  block_fits block e = block_named_fits (newest_number state p) block (sym (newest_read state p h) ∙ e) ∙ block_below block

module _ (state : List ℕ) where
  -- ---- a record, by the numbers that were read

  module _ (i at part block : ℕ) (ea : at ≡ record_start i) (ep : part ≡ number_at state at record_field)
      (eb : block ≡ number_at state (at + record_field) record_field) where
    looked : is_record present (record_in state i) ≡ leb part last_part && is_block present block
    unfolding record_in
    looked =
        ap₂ (λ (p b : ℕ). leb p last_part && is_block present b) (sym (ep ∙ ap (λ (k : ℕ). number_at state k record_field) ea))
        (sym (eb ∙ ap (λ (k : ℕ). number_at state (k + record_field) record_field) ea))

    pub no_part : last_part < part → false ≡ is_record present (record_in state i)
    no_part h = sym (looked ∙ ap (λ (b : Bool). b && is_block present block) (lt-leb part last_part h))

    pub some_part : part ≤ last_part → is_record present (record_in state i) ≡ ltb block most_blocks
    some_part h = looked ∙ ap (λ (b : Bool). b && is_block present block) (le-leb part last_part h) ∙ block_below block

-- ---- all of them

-- in the words of the questions, which the crates above read them by, and in those of a range
pub from_listed : (test : ℕ → Bool) (a n : ℕ) → all (blocks_from a n) test ≡ all (listed (λ k. k) a n) test
unfolding blocks_from listed
from_listed test a zero = refl
from_listed test a (suc n) =
    all_cons test a (blocks_from (a + 1) n)
    ∙ ap (λ (b : Bool). test a && b) (from_listed test (a + 1) n ∙ ap (λ (k : ℕ). all (listed (λ j. j) k n) test) (add-one a))
    ∙ sym (all_cons test a (listed (λ j. j) (suc a) n))

from_range : (test : ℕ → Bool) (a n : ℕ) → all (blocks_from a n) test ≡ list_all test (range_with_len a n)
unfolding blocks_from
from_range test a zero = all_none test
from_range test a (suc n) = all_cons test a (blocks_from (a + 1) n) ∙ ap (λ (b : Bool). test a && b) (from_range test (a + 1) n)

records_listed : (state : List ℕ) (test : Record → Bool) (from n : ℕ)
    → all (records_in state from n) test ≡ list_all (λ i. test (record_in state i)) (range_with_len from n)
unfolding records_in
records_listed state test from zero = all_none test
records_listed state test from (suc n) =
    all_cons test (record_in state from) (records_in state (from + 1) n)
    ∙ ap (λ (b : Bool). test (record_in state from) && b) (records_listed state test (from + 1) n)

-- those before n, one after the other
module _ (test : ℕ → Bool) where
  abbrev pub all_before : ℕ → Bool
  all_before n = list_all test (range_with_len 0 n)

  one_more : (a n k : ℕ) → a + n ≡ k → (list_all test (range_with_len a n) && test k) ≡ list_all test (range_with_len a (suc n))
  one_more a zero k e =
      let same : k ≡ a = omega arith in
      ap test same ∙ sym (and-true (test a))
  one_more a (suc n) k e =
      and_assoc (test a) (list_all test (range_with_len (a + 1) n)) (test k)
      ∙ ap (λ (b : Bool). test a && b) (one_more (a + 1) n k (omega arith))

  pub none_before : true ≡ all_before 0
  none_before = refl

  pub one_before : (n : ℕ) (b r : Bool) → b ≡ all_before n → r ≡ test n → (b && r) ≡ all_before (n + 1)
  one_before n b r eb er = ap₂ (λ (x y : Bool). x && y) eb er ∙ one_more 0 n n (omega arith) ∙ ap all_before (sym (add-one n))

  pub all_looked : (i n : ℕ) (b : Bool) → b ≡ all_before i → i ≡ n → b ≡ all_before n
  all_looked i n b e z = e ∙ ap all_before z

module _ (state : List ℕ) (r : Bool) where
  pub newests_looked : r ≡ list_all (λ p. is_newest present (newest_number state p)) (range_with_len 0 parts) → r ≡ newests_fit present state
  unfolding newests_fit
  newests_looked e = e ∙ sym (from_range (λ p. is_newest present (newest_number state p)) 0 parts)

  pub records_looked : (n : ℕ) → r ≡ list_all (λ i. is_record present (record_in state i)) (range_with_len 0 n)
      → r ≡ all (records_in state 0 n) (is_record present)
  records_looked n e = e ∙ sym (records_listed state (is_record present) 0 n)
