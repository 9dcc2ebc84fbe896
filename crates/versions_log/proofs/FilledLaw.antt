-- What the code's stores make of a log block, in the definitions' words. Assumes nothing.
use mathlib.Core.Path.{◌≡◌, ap, sym, ◌∙◌}
use mathlib.Core.Bool.{true}
use mathlib.Core.List.{List, [], ◌∷◌, ◌++◌, append_assoc, append-nil}
use Prim.Native.Nat.{ℕ, ◌+◌, ◌-◌, ◌*◌, ◌<◌}
use native.Mathlib.Omega.{arith}
use lib.ListN.{length, length-append}
use Rattle.octets.specs.Part.{AreBytes, part, replaced, repeated}
use Rattle.octets.specs.Number.{bytes, with_number}
use Rattle.octets.proofs.RepeatedLaw.{repeated_length, repeated_add}
use Rattle.octets.proofs.ReplacedLaw.{replaced_length, replaced_all, replaced_next}
use Rattle.octets.proofs.NumberLaw.{bytes_length}
use Rattle.lockpage.specs.Geometry.{Geometry}
use Rattle.lockpage.specs.Size.{block_size}
use Rattle.versions_machine.specs.Versions.{Record, record_of, entered}
use Rattle.versions_machine.specs.Log.{record_field, record_size, record_bytes, records_bytes, pointer_size, unused, records_per_block, log_block}
use Rattle.versions_machine.proofs.LogLaw.{record_length}
use Rattle.versions_state.specs.Layout.{parts, records_start, most_records}
use Rattle.versions_state.specs.State.{newest_bytes, records_area, state_bytes, record_count, versions_in, is_valid}
use Rattle.versions_bytes.proofs.PlaceLaw.{alone, place_read}
use Rattle.versions_bytes.proofs.NewestLaw.{newests_length}
use Rattle.versions_bytes.proofs.RecordLaw.{records_append, area_length}
use Rattle.versions_bytes.proofs.StateLaw.{area_place, record_stored}
use Rattle.versions_state.proofs.ValidLaw.{facts, count_read, read_back, few_read}

module _ (γ : Geometry) where
  module _ (xs : List Record) where
    -- a log block: the records' bytes as they are, the place of one more, and the pointer
    log_block_lem : (pointer : ℕ) → length xs < records_per_block γ
        → (records_area γ xs ++ repeated record_size unused) ++ bytes pointer_size pointer ≡ log_block γ xs pointer
    unfolding records_area log_block
    log_block_lem pointer h =
        let left = record_size * (most_records γ - length xs) in
        let size : left + record_size ≡ record_size * (records_per_block γ - length xs) = omega arith in
        ap (λ (l : List ℕ). l ++ bytes pointer_size pointer)
        (append_assoc (records_bytes xs) (repeated left unused) (repeated record_size unused)
        ∙ ap (λ (l : List ℕ). records_bytes xs ++ l) (sym (repeated_add left record_size unused) ∙ ap (λ (k : ℕ). repeated k unused) size))
        ∙ append_assoc (records_bytes xs) (repeated (record_size * (records_per_block γ - length xs)) unused) (bytes pointer_size pointer)

    -- and one that its last record fills
    full_block : (x : Record) (pointer : ℕ) → length xs + 1 ≡ records_per_block γ
        → (records_area γ xs ++ record_bytes x) ++ bytes pointer_size pointer ≡ log_block γ (xs ++ (x ∷ [])) pointer
    unfolding records_area log_block repeated
    full_block x pointer h =
        let none : record_size * (most_records γ - length xs) ≡ 0 = omega arith in
        let none_more : record_size * (records_per_block γ - length (xs ++ (x ∷ []))) ≡ 0 = omega (arith, length-append xs (x ∷ [])) in
        ap (λ (l : List ℕ). (l ++ record_bytes x) ++ bytes pointer_size pointer)
        (ap (λ (k : ℕ). records_bytes xs ++ repeated k unused) none ∙ append-nil (records_bytes xs))
        ∙ ap (λ (l : List ℕ). l ++ bytes pointer_size pointer) (sym (records_append xs x))
        ∙ ap (λ (k : ℕ). records_bytes (xs ++ (x ∷ [])) ++ (repeated k unused ++ bytes pointer_size pointer)) (sym none_more)

  -- ---- the stores

  module _ (state out a : List ℕ) (are : AreBytes state) (v : is_valid γ state ≡ true) (size : length out ≡ block_size γ)
      (ea : a ≡ replaced out 0 (part state records_start (record_size * most_records γ))) where
    -- the records, as they stand in the state
    abbrev area : List ℕ
    area = records_area γ (versions_in state).records

    area_read : part state records_start (record_size * most_records γ) ≡ area
    unfolding state_bytes
    area_read =
        let ν = versions_in state in
        ap (λ (l : List ℕ). part l records_start (record_size * most_records γ)) (read_back γ state are v)
        ∙ place_read
        (area_place ν.lock ν.reserve ν.taken (length ν.records) (newest_bytes ν.newest 0 parts)
        (newests_length ν.newest 0 parts) alone)
        area (record_size * most_records γ) (area_length γ ν.records (few_read γ state are v))

    -- behind them an item in the last record's place, and the pointer
    filled : (item b r : List ℕ) (pointer : ℕ) → length item ≡ record_size → b ≡ replaced a (record_size * most_records γ) item
        → r ≡ with_number b (record_size * most_records γ + record_size) pointer_size pointer → r ≡ (area ++ item) ++ bytes pointer_size pointer
    unfolding with_number
    filled item b r pointer el eb er =
        let f = facts γ state v in
        let front = area_length γ (versions_in state).records (few_read γ state are v) in
        let digits = bytes_length pointer_size pointer in
        let both : length (area ++ item) ≡ record_size * most_records γ + record_size = length-append area item ∙ omega arith in
        let first = ea ∙ ap (replaced out 0) area_read in
        let second = replaced_next out a area item b (record_size * most_records γ) first (sym front) (omega (arith, f.few)) eb in
        replaced_next out b (area ++ item) (bytes pointer_size pointer) r (record_size * most_records γ + record_size) second (sym both)
        (omega (arith, f.few)) er
        ∙ replaced_all out ((area ++ item) ++ bytes pointer_size pointer)
        (length-append (area ++ item) (bytes pointer_size pointer) ∙ omega (arith, f.few))

    pub log_filled : (b r : List ℕ) (pointer : ℕ) → b ≡ replaced a (record_size * most_records γ) (repeated record_size unused)
        → r ≡ with_number b (record_size * most_records γ + record_size) pointer_size pointer → r ≡ log_block γ (versions_in state).records pointer
    log_filled b r pointer eb er =
        filled (repeated record_size unused) b r pointer (repeated_length record_size unused) eb er
        ∙ log_block_lem (versions_in state).records pointer (omega (arith, (facts γ state v).few, count_read γ state))

    pub full_filled : (b c r : List ℕ) (p block pointer : ℕ) → record_count state + 1 ≡ records_per_block γ
        → b ≡ with_number a (record_size * most_records γ) record_field p
        → c ≡ with_number b (record_size * most_records γ + record_field) record_field block
        → r ≡ with_number c (record_size * most_records γ + record_size) pointer_size pointer
        → r ≡ log_block γ (entered (versions_in state) p block).records pointer
    unfolding entered
    full_filled b c r p block pointer last eb ec er =
        let x = record_of p block in
        let at = record_size * most_records γ in
        let front = area_length γ (versions_in state).records (few_read γ state are v) in
        let copied = ea ∙ ap (replaced out 0) area_read in
        let long : length a ≡ block_size γ = ap length copied ∙ replaced_length out 0 area (omega (arith, (facts γ state v).few)) ∙ size in
        let twice = ec ∙ ap (λ (l : List ℕ). with_number l (at + record_field) record_field block) eb
        ∙ record_stored a at p block (omega (arith, (facts γ state v).few)) in
        filled (record_bytes x) c r pointer (record_length x) twice er
        ∙ full_block (versions_in state).records x pointer (omega (arith, last, count_read γ state))
