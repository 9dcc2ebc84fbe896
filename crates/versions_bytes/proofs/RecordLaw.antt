-- The bytes of the records that no log block has yet: how many they are, one more behind them, and as a log block has them. Assumes
-- nothing.
use mathlib.Core.Path.{◌≡◌, ap, ap₂, sym, ◌∙◌}
use mathlib.Core.List.{List, [], ◌∷◌, ◌++◌, append_assoc, append-nil}
use Prim.Native.Nat.{ℕ, ◌+◌, ◌-◌, ◌*◌, ◌≤◌, ◌<◌}
use native.Mathlib.Nat.{sub-zero}
use native.Mathlib.Omega.{arith}
use lib.ListN.{length, length-append}
use Rattle.octets.specs.Part.{repeated}
use Rattle.octets.proofs.RepeatedLaw.{repeated_length, repeated_add}
use Rattle.lockpage.specs.Geometry.{Geometry}
use Rattle.versions_machine.specs.Versions.{Record}
use Rattle.versions_machine.specs.Log.{record_size, record_bytes, records_bytes, unused}
use Rattle.versions_machine.proofs.LogLaw.{records_length}
use Rattle.versions_state.specs.Layout.{most_records}
use Rattle.versions_state.specs.State.{records_area}
use Rattle.versions_bytes.proofs.PlaceLaw.{Place, between}

pub records_append : (xs : List Record) (x : Record) → records_bytes (xs ++ (x ∷ [])) ≡ records_bytes xs ++ record_bytes x
unfolding records_bytes
records_append [] x = append-nil (record_bytes x)
records_append (y ∷ xs) x =
    ap (λ (l : List ℕ). record_bytes y ++ l) (records_append xs x) ∙ sym (append_assoc (record_bytes y) (records_bytes xs) (record_bytes x))

module _ (γ : Geometry) where
  pub area_length : (xs : List Record) → length xs ≤ most_records γ → length (records_area γ xs) ≡ record_size * most_records γ
  unfolding records_area
  area_length xs h =
      let left = record_size * (most_records γ - length xs) in
      length-append (records_bytes xs) (repeated left unused) ∙ omega (arith, records_length xs, repeated_length left unused)

  -- none
  pub area_none : repeated (record_size * most_records γ) unused ≡ records_area γ []
  unfolding records_area records_bytes
  area_none = ap (λ (k : ℕ). repeated (record_size * k) unused) (sym (sub-zero (most_records γ)))

  module _ (xs : List Record) where
    -- all of them, but for the place of the next
    abbrev pub next : List ℕ → List ℕ
    next m = records_bytes xs ++ (m ++ repeated (record_size * (most_records γ - (length xs + 1))) unused)

    pub next_place : Place next (record_size * length xs)
    next_place = between (records_bytes xs) (repeated (record_size * (most_records γ - (length xs + 1))) unused) (record_size * length xs) (records_length xs)

    pub area_is : length xs < most_records γ → records_area γ xs ≡ next (repeated record_size unused)
    unfolding records_area
    area_is h =
        let left = record_size * (most_records γ - (length xs + 1)) in
        let size : record_size * (most_records γ - length xs) ≡ record_size + left = omega arith in
        ap (λ (l : List ℕ). records_bytes xs ++ l) (ap (λ (k : ℕ). repeated k unused) size ∙ repeated_add record_size left unused)

    pub area_more : (x : Record) → records_area γ (xs ++ (x ∷ [])) ≡ next (record_bytes x)
    unfolding records_area
    area_more x =
        ap₂ (λ (l : List ℕ) (k : ℕ). l ++ repeated (record_size * (most_records γ - k)) unused) (records_append xs x) (length-append xs (x ∷ []))
        ∙ append_assoc (records_bytes xs) (record_bytes x) _
