-- What a valid state's bytes say, and that a state of which all of it holds is valid. Assumes nothing.
use mathlib.Core.Path.{◌≡◌, ap, ap₂, sym, ◌∙◌}
use mathlib.Core.Bool.{Bool, true, false, ◌&&◌, and-true, false≢true}
use mathlib.Mathlib.Data.Bool.Basic.{and_intro, and_elim_left, and_elim_right, eq-false_of_not-eq-true}
use mathlib.Core.List.{List, all}
use Prim.Native.Nat.{ℕ, ◌-◌, ◌*◌, ◌≤◌, ◌<◌}
use native.Mathlib.Omega.{arith}
use borrow.Author.Tests.{eqb-true, leb-true, ltb-true, eq-eqb, lt-ltb}
use lib.Dec.{eqb, leb, ltb}
use lib.ListN.{length}
use Rattle.octets.specs.Part.{AreBytes, part, repeated, equal}
use Rattle.octets.proofs.EqualLaw.{equal_true}
use Rattle.lockpage.specs.Geometry.{Geometry}
use Rattle.lockpage.specs.Update.{longest_lock}
use Rattle.versions_machine.specs.Versions.{Versions, is_lock}
use Rattle.versions_machine.specs.Log.{record_size, unused, records_per_block, is_sound}
use Rattle.versions_state.specs.Layout.{record_start, most_records, state_size}
use Rattle.versions_state.specs.State.{state_bytes, record_count, records_in, versions_in, is_record}
use Rattle.versions_state.specs.State.{newests_fit, records_fit, rest_unused, is_laid_out, is_valid}
use Rattle.versions_state.proofs.ReadLaw.{records_read_lem, read_bytes}

-- what soundness says
module _ (γ : Geometry) (ν : Versions) (h : is_sound γ ν ≡ true) where
  sound_lock : is_lock ν.lock ≡ true
  unfolding is_sound
  sound_lock = and_elim_left (is_lock ν.lock) (ltb (length ν.records) (records_per_block γ)) h

  pub sound_most : ν.lock ≤ longest_lock
  sound_most = leb-true ν.lock longest_lock (and_elim_right (leb 1 ν.lock) (leb ν.lock longest_lock) sound_lock)

  pub sound_few : length ν.records < records_per_block γ
  unfolding is_sound
  sound_few =
      ltb-true (length ν.records) (records_per_block γ) (and_elim_right (is_lock ν.lock) (ltb (length ν.records) (records_per_block γ)) h)

module _ (γ : Geometry) (state : List ℕ) where
  pub record Valid : Type 0 where
    pub size : length state ≡ state_size γ
    pub lock : is_lock (versions_in state).lock ≡ true
    pub few : record_count state < records_per_block γ
    pub newests : newests_fit γ state ≡ true
    pub records : records_fit γ state ≡ true
    pub rest : rest_unused γ state ≡ true

  -- the records are as many as are counted
  pub count_read : length (versions_in state).records ≡ record_count state
  unfolding versions_in
  count_read = records_read_lem state 0 (record_count state)

  pub sound : is_valid γ state ≡ true → is_sound γ (versions_in state) ≡ true
  unfolding is_valid
  sound v = and_elim_right (is_laid_out γ state) (is_sound γ (versions_in state)) v

  pub facts : is_valid γ state ≡ true → Valid
  unfolding is_valid is_laid_out
  facts v =
      let laid = and_elim_left (is_laid_out γ state) (is_sound γ (versions_in state)) v in
      let bodies = and_elim_right (eqb (length state) (state_size γ)) (newests_fit γ state && (records_fit γ state && rest_unused γ state)) laid in
      let records = and_elim_right (newests_fit γ state) (records_fit γ state && rest_unused γ state) bodies in
      record {
        size = eqb-true (length state) (state_size γ) (and_elim_left (eqb (length state) (state_size γ)) _ laid);
        lock = sound_lock γ (versions_in state) (sound v);
        few = omega (arith, sound_few γ (versions_in state) (sound v), count_read);
        newests = and_elim_left (newests_fit γ state) (records_fit γ state && rest_unused γ state) bodies;
        records = and_elim_left (records_fit γ state) (rest_unused γ state) records;
        rest = and_elim_right (records_fit γ state) (rest_unused γ state) records;
      }

  -- behind the records is FF
  pub rest_unused_lem : rest_unused γ state ≡ true
      → let size = record_size * (most_records γ - record_count state) in
      part state (record_start (record_count state)) size ≡ repeated size unused
  unfolding rest_unused
  rest_unused_lem e = equal_true _ _ e

  -- one of them does not hold
  pub refused : (Valid → ⊥) → false ≡ is_valid γ state
  refused not-all = sym (eq-false_of_not-eq-true (λ v. not-all (facts v)))

  pub refused_by_lem : (answer r : Bool) → r ≡ answer → r ≡ false → (Valid → answer ≡ true) → false ≡ is_valid γ state
  refused_by_lem answer r e n says = refused (λ f. false≢true (sym n ∙ e ∙ says f))

  -- all but the last hold
  module _ (size : length state ≡ state_size γ) (sounds : is_sound γ (versions_in state) ≡ true) (newests : newests_fit γ state ≡ true)
      (records : records_fit γ state ≡ true) where
    pub decided : rest_unused γ state ≡ is_valid γ state
    unfolding is_valid is_laid_out
    decided =
        let whole = eq-eqb (length state) (state_size γ) size in
        sym
        (ap₂ ◌&&◌
        (ap₂ ◌&&◌ whole (ap₂ ◌&&◌ newests (ap (λ (b : Bool). b && rest_unused γ state) records)))
        sounds
        ∙ and-true (rest_unused γ state))

  pub makes_sound : is_lock (versions_in state).lock ≡ true → record_count state < records_per_block γ → is_sound γ (versions_in state) ≡ true
  unfolding is_sound
  makes_sound locked few =
      and_intro locked (lt-ltb (length (versions_in state).records) (records_per_block γ) (omega (arith, count_read)))

  -- by the lock that was read
  pub lock_looked : (lock : ℕ) (r : Bool) → lock ≡ (versions_in state).lock → r ≡ is_lock lock → r ≡ is_lock (versions_in state).lock
  lock_looked lock r el er = er ∙ ap is_lock el

  -- by the count that was read
  module _ (n : ℕ) (en : n ≡ record_count state) (r : Bool) where
    pub records_counted : r ≡ all (records_in state 0 n) (is_record γ) → r ≡ records_fit γ state
    unfolding records_fit
    records_counted er = er ∙ ap (λ (k : ℕ). all (records_in state 0 k) (is_record γ)) en

    pub rest_counted : (at size : ℕ) → at ≡ record_start n → size ≡ record_size * (most_records γ - n)
        → r ≡ equal (part state at size) (repeated size unused) → r ≡ rest_unused γ state
    unfolding rest_unused
    rest_counted at size ea es er =
        er
        ∙ ap₂ (λ (k m : ℕ). equal (part state k m) (repeated m unused)) ea es
        ∙ ap (λ (k : ℕ). equal (part state (record_start k) (record_size * (most_records γ - k))) (repeated (record_size * (most_records γ - k)) unused)) en

  -- what is read from it has its bytes
  module _ (b : AreBytes state) (v : is_valid γ state ≡ true) where
    pub read_back : state ≡ state_bytes γ (versions_in state)
    read_back =
        let f = facts v in
        sym (read_bytes state b γ f.size (omega (arith, f.few)) (rest_unused_lem f.rest))

    pub few_read : length (versions_in state).records ≤ most_records γ
    few_read = omega (arith, (facts v).few, count_read)
