-- The version store's state as bytes: a valid one stays so in a box that has more groups, and what the store's calls leave is valid in
-- both boxes or in neither. Assumes nothing.
use mathlib.Core.Path.{◌≡◌, refl, ap, sym, subst, ◌∙◌}
use mathlib.Core.Bool.{Bool, true, false, ◌||◌}
use mathlib.Mathlib.Data.Bool.Basic.{and_intro, and_elim_left, and_elim_right}
use mathlib.Core.List.{List, [], all, all-eq-true}
use Prim.Native.Nat.{ℕ, ◌+◌, ◌<◌}
use native.Mathlib.Nat.{mul-le-mul_left}
use native.Mathlib.Omega.{arith}
use borrow.Author.Tests.{lt-ltb, ltb-true, eq-eqb, ne_eqb}
use lib.Dec.{eqb, leb}
use Rattle.lockpage.specs.Geometry.{Geometry, Proper, widened}
use Rattle.addressing.specs.Map.{group_data, data_blocks}
use Rattle.machine.specs.Command.{Box, box_of}
use Rattle.machine.specs.Question.{first_no}
use Rattle.machine.proofs.CaseLaw.{same_or_not, true_or_false, below_or_not}
use Rattle.versions_machine.specs.Versions.{Range, no_block, Record, start}
use Rattle.versions_machine.specs.Log.{records_per_block, is_sound}
use Rattle.versions_machine.specs.Allocation.{blocks_from, first_block}
use Rattle.versions_machine.specs.Call.{Result, last_part, put, flush}
use Rattle.versions_machine.proofs.DoesLaw.{put_does}
use Rattle.versions_state.specs.Layout.{parts}
use Rattle.versions_state.specs.State.{state_bytes, newest_number, record_count, records_in, versions_in, is_block, is_newest, is_record}
use Rattle.versions_state.specs.State.{newests_fit, records_fit, rest_unused, is_valid}
use Rattle.versions_state.proofs.ValidLaw.{facts, sound, decided, refused}
use Rattle.versions_bytes.specs.Call.{buffer_questions, start_bytes, handed, put_bytes, flush_bytes}
use Rattle.versions_bytes.proofs.FitLaw.{handed_on}
use Rattle.versions_bytes.proofs.FieldsLaw.{Fields, fields_valid}
use Rattle.versions_bytes.proofs.ReadFitsLaw.{read_fields}
use Rattle.versions_bytes.proofs.CallFitsLaw.{put_fields, flush_fields, flush_sound}
use Rattle.versions_bytes.proofs.FollowLaw.{handed_accepted, handed_refused, start_has}
use Rattle.migration_machine.specs.Migrate.{Wider}
use Rattle.migration_machine.specs.Promise.{StateStaysValid}

all_weaker : {A : Type 0} (p q : A → Bool) (l : List A) → ((x : A) → p x ≡ true → q x ≡ true) → all l p ≡ true → all l q ≡ true
all_weaker p q l f h = all-eq-true.1 (λ x m. f x (all-eq-true.0 h x m))

module _ (γ : Geometry) where
  -- a start that is refused leaves the buffer
  start_refused : (first : ℕ) (buffer : List ℕ) (lock : ℕ) → ((start_bytes γ first buffer lock).number ≡ 0 → ⊥)
      → (start_bytes γ first buffer lock).state ≡ buffer
  unfolding start_bytes
  start_refused first buffer lock r =
      let k = first_no (buffer_questions γ buffer lock) in
      same_or_not k 0 (λ e. absurd (r (rw (start_bytes, eq-eqb k 0 e)))) (λ d. rw (start_bytes, ne_eqb k 0 d))

  -- valid in both boxes, or in neither
  abbrev pub Alike : ℕ → List ℕ → Type 0
  Alike n state = is_valid (widened γ n) state ≡ is_valid γ state

-- γ is the old box's geometry, and the new one has n groups at most
module _ {γ : Geometry} (σ : Proper γ) {n : ℕ} (ω : Wider γ n) where
  -- ---- a valid state stays valid

  block_stays : (a : ℕ) → is_block γ a ≡ true → is_block (widened γ n) a ≡ true
  unfolding data_blocks
  block_stays a h =
      lt-ltb a (data_blocks (widened γ n) n)
      (omega (arith, ltb-true a (data_blocks γ γ.most_groups) h, mul-le-mul_left (group_data γ) ω.more))

  newest_stays : (a : ℕ) → is_newest γ a ≡ true → is_newest (widened γ n) a ≡ true
  newest_stays a h = go (eqb a no_block) h
    where
      go : (b : Bool) → (b || is_block γ a) ≡ true → (b || is_block (widened γ n) a) ≡ true
      go true e = refl
      go false e = block_stays a e

  record_stays : (x : Record) → is_record γ x ≡ true → is_record (widened γ n) x ≡ true
  record_stays x h =
      and_intro (and_elim_left (leb x.part last_part) (is_block γ x.block) h)
      (block_stays x.block (and_elim_right (leb x.part last_part) (is_block γ x.block) h))

  newests_stay : (state : List ℕ) → newests_fit γ state ≡ true → newests_fit (widened γ n) state ≡ true
  unfolding newests_fit
  newests_stay state h =
      all_weaker (λ part. is_newest γ (newest_number state part)) (λ part. is_newest (widened γ n) (newest_number state part)) (blocks_from 0 parts)
      (λ part e. newest_stays (newest_number state part) e) h

  records_stay : (state : List ℕ) → records_fit γ state ≡ true → records_fit (widened γ n) state ≡ true
  unfolding records_fit
  records_stay state h =
      all_weaker (is_record γ) (is_record (widened γ n)) (records_in state 0 (record_count state)) record_stays h

  pub state_stays_valid : StateStaysValid γ n
  unfolding StateStaysValid is_sound rest_unused
  state_stays_valid state v =
      let f = facts γ state v in
      sym
      (decided (widened γ n) state f.size (sound γ state v) (newests_stay state f.newests) (records_stay state f.records))
      ∙ f.rest

  -- ---- what a call leaves is valid in both boxes, or in neither

  valid_alike : (state : List ℕ) → is_valid γ state ≡ true → Alike γ n state
  unfolding StateStaysValid
  valid_alike state v = state_stays_valid state v ∙ sym v

  -- where a log block has room for no record, no state is valid
  roomless_alike : (state : List ℕ) → records_per_block γ < 1 → Alike γ n state
  roomless_alike state h = sym (refused (widened γ n) state (λ f. omega (arith, f.few))) ∙ refused γ state (λ f. omega (arith, f.few))

  pub start_alike : (state : List ℕ) (lock : ℕ) → Alike γ n state → Alike γ n (start_bytes γ first_block state lock).state
  start_alike state lock h =
      below_or_not (records_per_block γ) 1 (roomless_alike (start_bytes γ first_block state lock).state)
      (λ least.
      same_or_not (start_bytes γ first_block state lock).number 0
      (λ a.
      let x = start_has σ (record { first = first_block; number = 0 }) (omega arith) least state lock (box_of [] []) a in
      valid_alike (start_bytes γ first_block state lock).state
      (ap (is_valid γ) x.state ∙ (handed_on σ (start first_block lock) x.fits).valid))
      (λ r. subst (Alike γ n) (sym (start_refused γ first_block state lock r)) h))

  handed_alike : (state : List ℕ) (r : Result) → Alike γ n state → (r.number ≡ 0 → is_valid γ (state_bytes γ r.versions) ≡ true)
      → Alike γ n (handed γ state r).state
  handed_alike state r h f =
      same_or_not r.number 0
      (λ a. subst (Alike γ n) (sym (handed_accepted σ state r a)) (valid_alike (state_bytes γ r.versions) (f a)))
      (λ d. subst (Alike γ n) (sym (handed_refused σ state r d)) h)

  module _ (ρ : Range) (state : List ℕ) (s : Box) (h : Alike γ n state) where
    -- the store that is read from a valid state, its two blocks below some bound, as the range's are
    bound : ℕ
    bound = ρ.first + ρ.number + (versions_in state).reserve + (versions_in state).taken + 1

    read : is_valid γ state ≡ true → Fields γ bound (versions_in state)
    unfolding bound
    read v = read_fields γ state v bound (omega arith) (omega arith)

    pub put_alike : (part now : ℕ) (content : List ℕ) → Alike γ n (put_bytes γ ρ state s part now content).state
    unfolding put_bytes bound
    put_alike part now content =
        let ν = versions_in state in
        let r = put γ ρ ν s part now content in
        true_or_false (is_valid γ state)
        (λ v.
        rw (v, put_bytes)
        (handed_alike state r h
        (λ a.
        fields_valid σ bound r.versions (put_fields σ ρ bound (omega arith) ν s part now content a (read v))
        (put_does σ ρ ν s part now content a).still.sound)))
        (λ e. rw (e, put_bytes) h)

    pub flush_alike : (now : ℕ) → Alike γ n (flush_bytes γ ρ state s now).state
    unfolding flush_bytes bound
    flush_alike now =
        let ν = versions_in state in
        let r = flush γ ρ ν s now in
        true_or_false (is_valid γ state)
        (λ v.
        rw (v, flush_bytes)
        (handed_alike state r h
        (λ a.
        fields_valid σ bound r.versions (flush_fields σ ρ bound (omega arith) ν s now a (read v))
        (flush_sound σ ρ ν s now a (sound γ state v)))))
        (λ e. rw (e, flush_bytes) h)
