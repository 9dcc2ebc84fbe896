-- What the code's stores make of a state, in the definitions' words. Assumes nothing.
use mathlib.Core.Path.{◌≡◌, ap, ap₂, sym, ◌∙◌}
use mathlib.Core.Bool.{true}
use mathlib.Core.List.{List, [], ◌∷◌, ◌++◌, append_assoc}
use Prim.Native.Nat.{ℕ, ◌+◌, ◌-◌, ◌*◌, ◌≤◌, ◌<◌}
use native.Mathlib.Omega.{arith}
use lib.ListN.{length, length-append}
use Rattle.octets.specs.Part.{AreBytes, replaced, repeated}
use Rattle.octets.specs.Number.{bytes, with_number}
use Rattle.octets.proofs.RepeatedLaw.{repeated_length, repeated_add}
use Rattle.octets.proofs.ReplacedLaw.{replaced_all, replaced_next}
use Rattle.octets.proofs.NumberLaw.{bytes_length}
use Rattle.lockpage.specs.Geometry.{Geometry}
use Rattle.versions_machine.specs.Versions.{record_of, Versions, versions_of, start, replaced_by, entered, logged}
use Rattle.versions_machine.specs.Log.{record_field, record_size, record_bytes, unused, records_per_block}
use Rattle.versions_machine.specs.Allocation.{first_block}
use Rattle.versions_machine.specs.Call.{last_part}
use Rattle.versions_state.specs.Layout.{field_size, lock_start, reserve_start, taken_start, record_count_start, newests_start, newest_start, parts}
use Rattle.versions_state.specs.Layout.{records_start, record_start, most_records, state_size}
use Rattle.versions_state.specs.State.{state_bytes, record_count, versions_in, is_valid}
use Rattle.versions_bytes.proofs.NewestLaw.{newests_none}
use Rattle.versions_bytes.proofs.RecordLaw.{area_none}
use Rattle.versions_bytes.proofs.StateLaw.{state_length, reserve_set, taken_set, newest_set, records_cleared, record_added, record_stored}
use Rattle.versions_state.proofs.ValidLaw.{count_read, read_back}

-- a number at a place that was computed
pub stored_at : (l r : List ℕ) (at k place n : ℕ) → at ≡ place → r ≡ with_number l at k n → r ≡ with_number l place k n
stored_at l r at k place n ea er = er ∙ ap (λ (i : ℕ). with_number l i k n) ea

module _ (γ : Geometry) where
  pub newest_stored : (ν : Versions) (s r : List ℕ) (p block : ℕ) → p ≤ last_part → s ≡ state_bytes γ ν → r ≡ with_number s (newest_start p) field_size block
      → r ≡ state_bytes γ (versions_of ν.lock (replaced_by ν.newest p block) ν.records ν.reserve ν.taken)
  newest_stored ν s r p block h es er =
      er ∙ ap (λ (l : List ℕ). with_number l (newest_start p) field_size block) es ∙ newest_set γ ν p block h

  taken_stored : (ν : Versions) (s r : List ℕ) (n : ℕ) → s ≡ state_bytes γ ν → r ≡ with_number s taken_start field_size n
      → r ≡ state_bytes γ (versions_of ν.lock ν.newest ν.records ν.reserve n)
  taken_stored ν s r n es er = er ∙ ap (λ (l : List ℕ). with_number l taken_start field_size n) es ∙ taken_set γ ν n

  record_entered : (ν : Versions) (s c d r : List ℕ) (n at p block : ℕ) → n ≡ length ν.records → n < most_records γ → at ≡ record_start n
      → s ≡ state_bytes γ ν → c ≡ with_number s at record_field p → d ≡ with_number c (at + record_field) record_field block
      → r ≡ with_number d record_count_start field_size (n + 1)
      → r ≡ state_bytes γ (versions_of ν.lock ν.newest (ν.records ++ (record_of p block ∷ [])) ν.reserve ν.taken)
  record_entered ν s c d r n at p block en few ea es ec ed er =
      let size : length s ≡ state_size γ = ap length es ∙ state_length γ ν (omega arith) in
      let twice = ed ∙ ap (λ (l : List ℕ). with_number l (at + record_field) record_field block) ec ∙ record_stored s at p block (omega arith) in
      er
      ∙ ap (λ (l : List ℕ). with_number l record_count_start field_size (n + 1))
      (twice ∙ ap₂ (λ (l : List ℕ) (k : ℕ). replaced l k (record_bytes (record_of p block))) es ea)
      ∙ record_added γ ν n p block en few

  -- a version entered
  pub enter_stored : (state a b c d r : List ℕ) (n at p block : ℕ) → AreBytes state → is_valid γ state ≡ true → p ≤ last_part
      → record_count state + 1 < records_per_block γ → n ≡ record_count state → at ≡ record_start n
      → a ≡ with_number state (newest_start p) field_size block → b ≡ with_number a taken_start field_size block
      → c ≡ with_number b at record_field p → d ≡ with_number c (at + record_field) record_field block
      → r ≡ with_number d record_count_start field_size (n + 1) → r ≡ state_bytes γ (entered (versions_in state) p block)
  unfolding entered
  enter_stored state a b c d r n at p block are v h more en ee ea eb ec ed er =
      let ν = versions_in state in
      let new = replaced_by ν.newest p block in
      record_entered (versions_of ν.lock new ν.records ν.reserve block) b c d r n at p block (en ∙ sym (count_read γ state))
      (omega arith) ee
      (taken_stored (versions_of ν.lock new ν.records ν.reserve ν.taken) a b block
      (newest_stored ν state a p block h (read_back γ state are v) ea) eb)
      ec ed er

  -- the records stored in a log block
  pub cleared_stored : (ν : Versions) (s a b c r : List ℕ) (pointer : ℕ) → a ≡ with_number s reserve_start field_size pointer
      → b ≡ with_number a taken_start field_size pointer → c ≡ with_number b record_count_start field_size 0
      → r ≡ replaced c records_start (repeated (record_size * most_records γ) unused) → s ≡ state_bytes γ ν → length ν.records ≤ most_records γ
      → r ≡ state_bytes γ (logged ν pointer)
  unfolding logged
  cleared_stored ν s a b c r pointer ea eb ec er es few =
      let reserved = ea ∙ ap (λ (l : List ℕ). with_number l reserve_start field_size pointer) es ∙ reserve_set γ ν pointer in
      let taken = taken_stored (versions_of ν.lock ν.newest ν.records pointer ν.taken) a b pointer reserved eb in
      er
      ∙ ap (λ (l : List ℕ). replaced l records_start (repeated (record_size * most_records γ) unused))
      (ec ∙ ap (λ (l : List ℕ). with_number l record_count_start field_size 0) taken)
      ∙ records_cleared γ (versions_of ν.lock ν.newest ν.records pointer pointer) few

  -- a start, field after field
  pub start_stored : (state a b c d r : List ℕ) (lock : ℕ) → length state ≡ state_size γ → a ≡ with_number state lock_start field_size lock
      → b ≡ with_number a reserve_start field_size first_block → c ≡ with_number b taken_start field_size first_block
      → d ≡ with_number c record_count_start field_size 0 → r ≡ replaced d newests_start (repeated (state_size γ - newests_start) unused)
      → r ≡ state_bytes γ (start first_block lock)
  unfolding with_number start state_bytes
  start_stored state a b c d r lock size ea eb ec ed er =
      let head = bytes field_size lock in
      let zero = bytes field_size 0 in
      let rest = repeated (state_size γ - newests_start) unused in
      let four = bytes_length field_size lock in
      let more = bytes_length field_size 0 in
      let left = repeated_length (state_size γ - newests_start) unused in
      let two : length (head ++ zero) ≡ taken_start = length-append head zero ∙ omega arith in
      let three : length ((head ++ zero) ++ zero) ≡ record_count_start = length-append (head ++ zero) zero ∙ omega arith in
      let numbers : length (((head ++ zero) ++ zero) ++ zero) ≡ newests_start = length-append ((head ++ zero) ++ zero) zero ∙ omega arith in
      let second = replaced_next state a head zero b reserve_start ea (omega arith) (omega arith) eb in
      let third = replaced_next state b (head ++ zero) zero c taken_start second (sym two) (omega arith) ec in
      let fourth = replaced_next state c ((head ++ zero) ++ zero) zero d record_count_start third (sym three) (omega arith) ed in
      let areas : state_size γ - newests_start ≡ field_size * parts + record_size * most_records γ = omega arith in
      replaced_next state d (((head ++ zero) ++ zero) ++ zero) rest r newests_start fourth (sym numbers) (omega arith) er
      ∙ replaced_all state ((((head ++ zero) ++ zero) ++ zero) ++ rest) (length-append (((head ++ zero) ++ zero) ++ zero) rest ∙ omega arith)
      ∙ ap (λ (l : List ℕ). (((head ++ zero) ++ zero) ++ zero) ++ l)
      (ap (λ (k : ℕ). repeated k unused) areas
      ∙ repeated_add (field_size * parts) (record_size * most_records γ) unused
      ∙ ap₂ ◌++◌ (sym (newests_none 0 parts)) (area_none γ))
      ∙ simp append_assoc
