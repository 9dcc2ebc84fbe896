-- What has room in its field is read back from its bytes, and these are valid. Assumes nothing.
use mathlib.Core.Path.{◌≡◌, refl, ap, ap₂, sym, ◌∙◌}
use mathlib.Core.Bool.{Bool, true, false, ◌||◌}
use mathlib.Mathlib.Data.Bool.Basic.{and_elim_left, and_elim_right, or_inr}
use mathlib.Core.List.{List, [], ◌∷◌, ◌++◌, all}
use Rattle.std.specs.Prelude.{Option, Some, None}
use Prim.Native.Nat.{ℕ, ◌+◌, ◌-◌, ◌*◌, ◌^◌, ◌≤◌, ◌<◌}
use native.Mathlib.Nat.{add-zero, mul-le-mul}
use native.Mathlib.Omega.{arith}
use borrow.Author.Tests.{leb-true, leb-false, ltb-true, eq-eqb, ne_eqb}
use lib.Dec.{eqb, leb}
use lib.ListN.{length}
use Rattle.octets.specs.Part.{part, repeated}
use Rattle.octets.specs.Number.{number, bytes, number_at}
use Rattle.octets.proofs.PartLaw.{part_part, part_first, part_second}
use Rattle.octets.proofs.RepeatedLaw.{repeated_length}
use Rattle.octets.proofs.NumberLaw.{bytes_length, number_bytes}
use Rattle.octets.proofs.EqualLaw.{equal_yes}
use Rattle.lockpage.specs.Geometry.{Geometry, Proper}
use Rattle.addressing.specs.Map.{data_blocks}
use Rattle.machine.proofs.ListedLaw.{all_cons, all_listed}
use Rattle.versions_machine.specs.Versions.{no_block, block_number, block_named, Record, record_of, Versions, versions_of}
use Rattle.versions_machine.specs.Log.{record_field, record_size, record_bytes, records_bytes, unused, records_per_block, is_sound}
use Rattle.versions_machine.specs.Call.{last_part}
use Rattle.versions_machine.proofs.LogLaw.{record_length, records_length}
use Rattle.versions_state.specs.Layout.{field_size, lock_start, reserve_start, taken_start, newest_start, parts, record_start, most_records}
use Rattle.versions_state.specs.State.{newest_bytes, records_area, state_bytes, record_count, newest_number, newest_in, record_in, records_in, versions_in}
use Rattle.versions_state.specs.State.{is_block, is_newest, is_record, newests_fit, records_fit, rest_unused}
use Rattle.versions_bytes.specs.Claims.{Fits, HandedOn}
use Rattle.versions_bytes.proofs.PlaceLaw.{here, alone, behind, place_read, place_number}
use Rattle.versions_bytes.proofs.NewestLaw.{newests_length, newest_place, newests_are}
use Rattle.versions_bytes.proofs.StateLaw.{fields, lock_place, reserve_place, taken_place, count_place, newests_place, area_place, state_length}
use Rattle.versions_state.proofs.ValidLaw.{sound_most, sound_few, rest_counted, decided}
use Rattle.versions_state.proofs.CheckLaw.{from_listed}

-- γ is any proper geometry
module _ {γ : Geometry} (σ : Proper γ) where
  -- no block of a box has the number of none
  pub block_small : (a : ℕ) → is_block γ a ≡ true → a < no_block
  unfolding data_blocks
  block_small a h =
      omega (arith, ltb-true a (data_blocks γ γ.most_groups) h, mul-le-mul σ.few_entries σ.few_groups)

  -- ---- a newest block

  number_named : (o : Option ℕ) → ((block : ℕ) → o ≡ Some block → is_block γ block ≡ true) → block_named (block_number o) ≡ o
  number_named None h = ap (λ (b : Bool). elim b [ true ↦ None | false ↦ Some no_block ]) (eq-eqb no_block no_block refl)
  number_named (Some block) h =
      ap (λ (b : Bool). elim b [ true ↦ None | false ↦ Some block ])
      (ne_eqb block no_block (λ e. omega (arith, block_small block (h block refl))))

  number_small : (o : Option ℕ) → ((block : ℕ) → o ≡ Some block → is_block γ block ≡ true) → block_number o < 256 ^ field_size
  number_small None h = omega arith
  number_small (Some block) h = omega (arith, block_small block (h block refl))

  number_newest : (o : Option ℕ) → ((block : ℕ) → o ≡ Some block → is_block γ block ≡ true) → is_newest γ (block_number o) ≡ true
  number_newest None h = ap (λ (b : Bool). b || is_block γ no_block) (eq-eqb no_block no_block refl)
  number_newest (Some block) h = or_inr (eqb block no_block) (is_block γ block) (h block refl)

  -- ---- the records

  -- the first part of a part, and the second
  inner : (l : List ℕ) (at k f n : ℕ) (x : List ℕ) → f + n ≤ k → part l at k ≡ x → part l (at + f) n ≡ part x f n
  inner l at k f n x h e = sym (part_part l at k f n h) ∙ ap (λ (y : List ℕ). part y f n) e

  record_back : (state : List ℕ) (i : ℕ) (x : Record) → part state (record_start i) record_size ≡ record_bytes x → is_record γ x ≡ true
      → record_in state i ≡ x
  unfolding record_in record_bytes number_at
  record_back state i x e h =
      let a = record_start i in
      let p = bytes record_field x.part in
      let b = bytes record_field x.block in
      let lp = bytes_length record_field x.part in
      let small = leb-true x.part last_part (and_elim_left (leb x.part last_part) (is_block γ x.block) h) in
      let block = block_small x.block (and_elim_right (leb x.part last_part) (is_block γ x.block) h) in
      ap₂ record_of
      (ap number
      (ap (λ (k : ℕ). part state k record_field) (sym (add-zero a))
      ∙ inner state a record_size 0 record_field (p ++ b) (omega arith) e
      ∙ part_first p b record_field lp)
      ∙ number_bytes record_field x.part (omega arith))
      (ap number
      (inner state a record_size record_field record_field (p ++ b) (omega arith) e
      ∙ part_second p b record_field record_field lp (bytes_length record_field x.block))
      ∙ number_bytes record_field x.block (omega arith))

  records_back : (state : List ℕ) (from : ℕ) (xs : List Record) → part state (record_start from) (record_size * length xs) ≡ records_bytes xs
      → all xs (is_record γ) ≡ true → records_in state from (length xs) ≡ xs
  unfolding records_in records_bytes
  records_back state from [] e h = refl
  records_back state from (x ∷ xs) e h =
      let a = record_start from in
      let both = sym (all_cons (is_record γ) x xs) ∙ h in
      let lx = record_length x in
      let next : record_start from + record_size ≡ record_start (from + 1) = omega arith in
      ap₂ (λ (y : Record) (ys : List Record). y ∷ ys)
      (record_back state from x
      (ap (λ (k : ℕ). part state k record_size) (sym (add-zero a))
      ∙ inner state a (record_size * length (x ∷ xs)) 0 record_size _ (omega arith) e
      ∙ part_first (record_bytes x) (records_bytes xs) record_size lx)
      (and_elim_left (is_record γ x) (all xs (is_record γ)) both))
      (records_back state (from + 1) xs
      (ap (λ (k : ℕ). part state k (record_size * length xs)) (sym next)
      ∙ inner state a (record_size * length (x ∷ xs)) record_size (record_size * length xs) _ (omega arith) e
      ∙ part_second (record_bytes x) (records_bytes xs) record_size (record_size * length xs) lx (records_length xs))
      (and_elim_right (is_record γ x) (all xs (is_record γ)) both))

  -- ---- all of it

  module _ (ν : Versions) (f : Fits γ ν) where
    abbrev written : List ℕ
    written = state_bytes γ ν

    abbrev newests : List ℕ
    newests = newest_bytes ν.newest 0 parts

    abbrev area : List ℕ
    area = records_area γ ν.records

    abbrev count : ℕ
    count = length ν.records

    few : count < records_per_block γ
    few = sound_few γ ν f.sound

    lock_back : number_at written lock_start field_size ≡ ν.lock
    unfolding state_bytes
    lock_back =
        place_number (lock_place ν.lock ν.reserve ν.taken count newests area) field_size ν.lock (omega (arith, sound_most γ ν f.sound))

    reserve_back : number_at written reserve_start field_size ≡ ν.reserve
    unfolding state_bytes
    reserve_back = place_number (reserve_place ν.lock ν.reserve ν.taken count newests area) field_size ν.reserve f.reserve

    taken_back : number_at written taken_start field_size ≡ ν.taken
    unfolding state_bytes
    taken_back = place_number (taken_place ν.lock ν.reserve ν.taken count newests area) field_size ν.taken f.taken

    count_back : record_count written ≡ count
    unfolding state_bytes record_count
    count_back =
        place_number (count_place ν.lock ν.reserve ν.taken count newests area) field_size count (omega (arith, few, σ.few_entries))

    newest_back : (p : ℕ) → p ≤ last_part → newest_number written p ≡ block_number (ν.newest p)
    unfolding state_bytes newest_number
    newest_back p h =
        ap (λ (l : List ℕ). number_at (fields ν.lock ν.reserve ν.taken count l area) (newest_start p) field_size) (newests_are ν.newest p h)
        ∙ place_number (newests_place ν.lock ν.reserve ν.taken count area (newest_place ν.newest p h)) field_size
        (block_number (ν.newest p)) (number_small (ν.newest p) (f.newest p))

    newests_back : (p : ℕ) → newest_in written p ≡ ν.newest p
    unfolding newest_in
    newests_back p = go (leb p last_part) refl
      where
        go : (b : Bool) → leb p last_part ≡ b → elim b [ true ↦ block_named (newest_number written p) | false ↦ None ] ≡ ν.newest p
        go true e = ap block_named (newest_back p (leb-true p last_part e)) ∙ number_named (ν.newest p) (f.newest p)
        go false e = sym (f.no_more p (leb-false p last_part e))

    records_placed : part written (record_start 0) (record_size * count) ≡ records_bytes ν.records
    unfolding state_bytes records_area
    records_placed =
        place_read
        (area_place ν.lock ν.reserve ν.taken count newests (newests_length ν.newest 0 parts)
        (here (repeated (record_size * (most_records γ - count)) unused)))
        (records_bytes ν.records) (record_size * count) (records_length ν.records)

    all_back : records_in written 0 (record_count written) ≡ ν.records
    all_back = ap (records_in written 0) count_back ∙ records_back written 0 ν.records records_placed f.records

    rest_back : part written (record_start count) (record_size * (most_records γ - count)) ≡ repeated (record_size * (most_records γ - count)) unused
    unfolding state_bytes records_area
    rest_back =
        place_read
        (area_place ν.lock ν.reserve ν.taken count newests (newests_length ν.newest 0 parts)
        (behind (records_bytes ν.records) (record_size * count) (omega (arith, records_length ν.records)) alone))
        _ (record_size * (most_records γ - count)) (repeated_length (record_size * (most_records γ - count)) unused)

    same_back : versions_in written ≡ ν
    unfolding versions_in
    same_back = λ i. versions_of (lock_back i) (λ p. newests_back p i) (all_back i) (reserve_back i) (taken_back i)

    -- ---- and it is valid

    newests_valid : newests_fit γ written ≡ true
    unfolding newests_fit
    newests_valid =
        from_listed (λ p. is_newest γ (newest_number written p)) 0 parts
        ∙ all_listed (λ k. k) (λ p. is_newest γ (newest_number written p)) 0 parts
        (λ p a b. ap (is_newest γ) (newest_back p (omega arith)) ∙ number_newest (ν.newest p) (f.newest p))

    records_valid : records_fit γ written ≡ true
    unfolding records_fit
    records_valid = ap (λ (xs : List Record). all xs (is_record γ)) all_back ∙ f.records

    rest_valid : rest_unused γ written ≡ true
    rest_valid =
        sym
        (rest_counted γ written count (sym count_back) true (record_start count) (record_size * (most_records γ - count)) refl refl
        (sym (equal_yes _ _ rest_back)))

    pub handed_on : HandedOn γ ν
    handed_on =
        record {
          valid =
              sym
              (decided γ written (state_length γ ν (omega (arith, few))) (ap (is_sound γ) same_back ∙ f.sound) newests_valid records_valid)
              ∙ rest_valid;
          same = same_back;
        }
