-- What is read from a valid state fits. Assumes nothing.
use mathlib.Core.Path.{◌≡◌, refl, ap, sym, ◌∙◌}
use mathlib.Core.Bool.{Bool, true, false, ◌||◌}
use mathlib.Core.List.{List}
use Rattle.std.specs.Prelude.{Some, None}
use Prim.Native.Nat.{ℕ, ◌<◌, ◌^◌}
use native.Mathlib.Omega.{arith}
use borrow.Author.Tests.{leb-true, lt-leb}
use lib.Dec.{eqb, leb}
use Rattle.octets.specs.Part.{AreBytes}
use Rattle.octets.proofs.NumberLaw.{number_at_small}
use Rattle.lockpage.specs.Geometry.{Geometry}
use Rattle.machine.proofs.ListedLaw.{listed_all}
use Rattle.versions_machine.specs.Versions.{no_block, block_named}
use Rattle.versions_machine.specs.Call.{last_part}
use Rattle.versions_state.specs.Layout.{field_size, reserve_start, taken_start, parts}
use Rattle.versions_state.specs.State.{newest_number, newest_in, versions_in, is_block, is_newest, newests_fit, records_fit, is_valid}
use Rattle.versions_bytes.specs.Claims.{Read}
use Rattle.versions_state.proofs.ValidLaw.{facts, sound, read_back}
use Rattle.versions_state.proofs.CheckLaw.{from_listed}
use Rattle.versions_bytes.proofs.FieldsLaw.{Fields, fits}

module _ (γ : Geometry) where
  -- a number that is a newest block, and does not name none
  named_block : (n block : ℕ) → is_newest γ n ≡ true → block_named n ≡ Some block → is_block γ block ≡ true
  named_block n block h e = go (eqb n no_block) h e
    where
      go : (b : Bool) → (b || is_block γ n) ≡ true → elim b [ true ↦ None | false ↦ Some n ] ≡ Some block → is_block γ block ≡ true
      go true w q = absurd (let z : ◌≡◌ {A = ℕ} 0 1 = cc in omega arith)
      go false w q = let same : n ≡ block = cc in ap (is_block γ) (sym same) ∙ w

  module _ (state : List ℕ) (v : is_valid γ state ≡ true) where
    newest_fits : (p : ℕ) → leb p last_part ≡ true → is_newest γ (newest_number state p) ≡ true
    unfolding newests_fit
    newest_fits p h =
        listed_all (λ k. k) (λ i. is_newest γ (newest_number state i)) 0 parts
        (sym (from_listed (λ i. is_newest γ (newest_number state i)) 0 parts) ∙ (facts γ state v).newests)
        p (omega arith) (omega (arith, leb-true p last_part h))

    newest_block : (p block : ℕ) → newest_in state p ≡ Some block → is_block γ block ≡ true
    unfolding newest_in
    newest_block p block e = go (leb p last_part) refl e
      where
        go : (t : Bool) → leb p last_part ≡ t → elim t [ true ↦ block_named (newest_number state p) | false ↦ None ] ≡ Some block
            → is_block γ block ≡ true
        go true h q = named_block (newest_number state p) block (newest_fits p h) q
        go false h q = absurd (let z : ◌≡◌ {A = ℕ} 0 1 = cc in omega arith)

    no_newest : (p : ℕ) → last_part < p → newest_in state p ≡ None
    unfolding newest_in
    no_newest p h = ap (λ (t : Bool). elim t [ true ↦ block_named (newest_number state p) | false ↦ None ]) (lt-leb p last_part h)

    -- whatever the reserve and the block last taken are
    pub read_fields : (bound : ℕ) → (versions_in state).reserve < bound → (versions_in state).taken < bound → Fields γ bound (versions_in state)
    unfolding versions_in records_fit
    read_fields bound r t =
        record { newest = newest_block; no_more = no_newest; records = (facts γ state v).records; reserve = r; taken = t }

    pub read_whole : AreBytes state → Read γ state
    unfolding versions_in
    read_whole b =
        record {
          same = sym (read_back γ state b v);
          fits =
              fits γ (versions_in state) (sound γ state v)
              (read_fields (256 ^ field_size) (number_at_small state reserve_start field_size b) (number_at_small state taken_start field_size b));
        }
