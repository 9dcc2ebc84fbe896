-- The places of a state's bytes, and what stores there make of them: the bytes of another state. Assumes nothing.
use mathlib.Core.Path.{◌≡◌, refl, ap, ap₂, sym, ◌∙◌}
use mathlib.Core.List.{List, [], ◌∷◌, ◌++◌}
use Prim.Native.Nat.{ℕ, ◌+◌, ◌*◌, ◌≤◌, ◌<◌}
use native.Mathlib.Omega.{arith}
use lib.ListN.{length, length-append}
use Rattle.octets.specs.Part.{replaced, repeated}
use Rattle.octets.specs.Number.{bytes, with_number}
use Rattle.octets.proofs.RepeatedLaw.{repeated_length}
use Rattle.octets.proofs.ReplacedLaw.{replaced_append}
use Rattle.octets.proofs.NumberLaw.{bytes_length}
use Rattle.lockpage.specs.Geometry.{Geometry}
use Rattle.versions_machine.specs.Versions.{record_of, Versions, versions_of, replaced_by}
use Rattle.versions_machine.specs.Log.{record_field, record_size, record_bytes, unused}
use Rattle.versions_machine.specs.Call.{last_part}
use Rattle.versions_machine.proofs.LogLaw.{record_length}
use Rattle.versions_state.specs.Layout.{field_size, lock_start, reserve_start, taken_start, record_count_start, newests_start, newest_start, parts}
use Rattle.versions_state.specs.Layout.{records_start, record_start, most_records, state_size}
use Rattle.versions_state.specs.State.{newest_bytes, records_area, state_bytes}
use Rattle.versions_bytes.proofs.PlaceLaw.{Place, here, alone, behind, before, place_stored, place_set}
use Rattle.versions_bytes.proofs.NewestLaw.{newests_length, newest_place, newests_are, newests_replaced}
use Rattle.versions_bytes.proofs.RecordLaw.{area_length, area_none, next, next_place, area_is, area_more}

-- the fields, one after the other
abbrev pub fields : ℕ → ℕ → ℕ → ℕ → List ℕ → List ℕ → List ℕ
fields lock reserve taken count newests area =
    bytes field_size lock
    ++ (bytes field_size reserve ++ (bytes field_size taken ++ (bytes field_size count ++ (newests ++ area))))

-- ---- their places

-- behind a number
next_to : {whole : List ℕ → List ℕ} {at : ℕ} (n : ℕ) → Place whole at → Place (λ m. bytes field_size n ++ whole m) (field_size + at)
next_to {whole} {at} n p = behind (bytes field_size n) (field_size + at) (omega (arith, bytes_length field_size n)) p

module _ (lock reserve taken count : ℕ) where
  -- behind the four numbers
  behind_head : {whole : List ℕ → List ℕ} {at : ℕ} (n : ℕ) → n ≡ newests_start + at → Place whole at
      → Place (λ m. bytes field_size lock ++ (bytes field_size reserve ++ (bytes field_size taken ++ (bytes field_size count ++ whole m)))) n
  behind_head {whole} {at} n e p =
      behind (bytes field_size lock) n (omega (arith, bytes_length field_size lock)) (next_to reserve (next_to taken (next_to count p)))

  module _ (newests area : List ℕ) where
    pub lock_place : Place (λ m. m ++ (bytes field_size reserve ++ (bytes field_size taken ++ (bytes field_size count ++ (newests ++ area))))) lock_start
    lock_place = here _

    pub reserve_place : Place (λ m. bytes field_size lock ++ (m ++ (bytes field_size taken ++ (bytes field_size count ++ (newests ++ area))))) reserve_start
    reserve_place = next_to lock (here _)

    pub taken_place : Place (λ m. bytes field_size lock ++ (bytes field_size reserve ++ (m ++ (bytes field_size count ++ (newests ++ area))))) taken_start
    taken_place = next_to lock (next_to reserve (here _))

    pub count_place : Place (λ m. bytes field_size lock ++ (bytes field_size reserve ++ (bytes field_size taken ++ (m ++ (newests ++ area))))) record_count_start
    count_place = next_to lock (next_to reserve (next_to taken (here _)))

  pub newests_place : {whole : List ℕ → List ℕ} {at : ℕ} (area : List ℕ) → Place whole at
      → Place (λ m. fields lock reserve taken count (whole m) area) (newests_start + at)
  newests_place area p = behind_head _ refl (before area p)

  pub area_place : {whole : List ℕ → List ℕ} {at : ℕ} (newests : List ℕ) → length newests ≡ field_size * parts → Place whole at
      → Place (λ m. fields lock reserve taken count newests (whole m)) (records_start + at)
  area_place {whole} {at} newests e p =
      behind_head {at = field_size * parts + at} (records_start + at) (omega arith) (behind newests (field_size * parts + at) (omega arith) p)

-- ---- stores

module _ (γ : Geometry) (ν : Versions) where
  -- its newest blocks and its records, as bytes
  abbrev newests_of : List ℕ
  newests_of = newest_bytes ν.newest 0 parts

  abbrev area_of : List ℕ
  area_of = records_area γ ν.records

  pub state_length : length ν.records ≤ most_records γ → length (state_bytes γ ν) ≡ state_size γ
  unfolding state_bytes
  state_length few =
      let count = length ν.records in
      simp length-append
      (omega (
        arith,
        bytes_length field_size ν.lock,
        bytes_length field_size ν.reserve,
        bytes_length field_size ν.taken,
        bytes_length field_size count,
        newests_length ν.newest 0 parts,
        area_length γ ν.records few,
      ))

  pub reserve_set : (n : ℕ)
      → with_number (state_bytes γ ν) reserve_start field_size n ≡ state_bytes γ (versions_of ν.lock ν.newest ν.records n ν.taken)
  unfolding state_bytes
  reserve_set n = place_set (reserve_place ν.lock ν.reserve ν.taken (length ν.records) newests_of area_of) field_size ν.reserve n

  pub taken_set : (n : ℕ)
      → with_number (state_bytes γ ν) taken_start field_size n ≡ state_bytes γ (versions_of ν.lock ν.newest ν.records ν.reserve n)
  unfolding state_bytes
  taken_set n = place_set (taken_place ν.lock ν.reserve ν.taken (length ν.records) newests_of area_of) field_size ν.taken n

  pub newest_set : (p block : ℕ) → p ≤ last_part
      → with_number (state_bytes γ ν) (newest_start p) field_size block
      ≡ state_bytes γ (versions_of ν.lock (replaced_by ν.newest p block) ν.records ν.reserve ν.taken)
  unfolding state_bytes
  newest_set p block h =
      let put : List ℕ → List ℕ = λ newests. fields ν.lock ν.reserve ν.taken (length ν.records) newests area_of in
      ap (λ (l : List ℕ). with_number (put l) (newest_start p) field_size block) (newests_are ν.newest p h)
      ∙ place_set (newests_place ν.lock ν.reserve ν.taken (length ν.records) area_of (newest_place ν.newest p h))
      field_size _ block
      ∙ ap put (sym (newests_replaced ν.newest p h block))

  -- no records
  pub records_cleared : length ν.records ≤ most_records γ
      → replaced (with_number (state_bytes γ ν) record_count_start field_size 0) records_start (repeated (record_size * most_records γ) unused)
      ≡ state_bytes γ (versions_of ν.lock ν.newest [] ν.reserve ν.taken)
  unfolding state_bytes
  records_cleared few =
      let none = repeated (record_size * most_records γ) unused in
      ap (λ (l : List ℕ). replaced l records_start none)
      (place_set (count_place ν.lock ν.reserve ν.taken (length ν.records) newests_of area_of) field_size (length ν.records) 0)
      ∙ place_stored (area_place ν.lock ν.reserve ν.taken 0 newests_of (newests_length ν.newest 0 parts) alone)
      area_of none (area_length γ ν.records few ∙ sym (repeated_length (record_size * most_records γ) unused))
      ∙ ap (λ (l : List ℕ). fields ν.lock ν.reserve ν.taken 0 newests_of l) (area_none γ)

  -- one more
  pub record_added : (n p block : ℕ) → n ≡ length ν.records → n < most_records γ
      → with_number (replaced (state_bytes γ ν) (record_start n) (record_bytes (record_of p block))) record_count_start field_size (n + 1)
      ≡ state_bytes γ (versions_of ν.lock ν.newest (ν.records ++ (record_of p block ∷ [])) ν.reserve ν.taken)
  unfolding state_bytes
  record_added n p block en few =
      let xs = ν.records in
      let x = record_of p block in
      let put : ℕ → List ℕ → List ℕ = λ k l. fields ν.lock ν.reserve ν.taken k newests_of l in
      ap (λ (l : List ℕ). with_number l record_count_start field_size (n + 1))
      (ap₂ (λ (l : List ℕ) (k : ℕ). replaced (put (length xs) l) (record_start k) (record_bytes x)) (area_is γ xs (omega arith)) en
      ∙ place_stored (area_place ν.lock ν.reserve ν.taken (length xs) newests_of (newests_length ν.newest 0 parts) (next_place γ xs))
      (repeated record_size unused) (record_bytes x) (repeated_length record_size unused ∙ sym (record_length x)))
      ∙ place_set (count_place ν.lock ν.reserve ν.taken (length xs) newests_of (next γ xs (record_bytes x))) field_size (length xs) (n + 1)
      ∙ ap₂ put (ap (λ (k : ℕ). k + 1) en ∙ sym (length-append xs (x ∷ []))) (sym (area_more γ xs x))

-- a record, stored in two
pub record_stored : (l : List ℕ) (at p block : ℕ) → at + record_size ≤ length l
    → with_number (with_number l at record_field p) (at + record_field) record_field block ≡ replaced l at (record_bytes (record_of p block))
unfolding with_number record_bytes
record_stored l at p block h =
    ap (λ (k : ℕ). replaced (replaced l at (bytes record_field p)) (at + k) (bytes record_field block)) (sym (bytes_length record_field p))
    ∙ replaced_append l at (bytes record_field p) (bytes record_field block)
    (omega (arith, bytes_length record_field p, bytes_length record_field block))
