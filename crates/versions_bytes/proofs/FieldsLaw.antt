-- What a store has between its calls and in them: it fits but for its soundness, and its reserve and the block last taken are below some
-- bound. Whatever the bound, the bytes of a sound one are valid. Assumes nothing.
use mathlib.Core.Path.{◌≡◌, ap, ap₂, sym, ◌∙◌}
use mathlib.Core.Bool.{true}
use mathlib.Core.List.{List, all, ◌++◌}
use Rattle.std.specs.Prelude.{Some, None}
use Prim.Native.Nat.{ℕ, ◌<◌, ◌^◌, ◌%◌}
use native.Mathlib.Nat.{mod-lt}
use lib.Dec.{lit<}
use lib.ListN.{length}
use Rattle.octets.specs.Number.{bytes}
use Rattle.octets.proofs.NumberLaw.{bytes_mod}
use Rattle.lockpage.specs.Geometry.{Geometry, Proper}
use Rattle.versions_machine.specs.Versions.{Versions, versions_of}
use Rattle.versions_machine.specs.Log.{is_sound}
use Rattle.versions_machine.specs.Call.{last_part}
use Rattle.versions_state.specs.Layout.{field_size, parts}
use Rattle.versions_state.specs.State.{is_block, is_record, newest_bytes, records_area, state_bytes, is_valid}
use Rattle.versions_bytes.specs.Claims.{Fits}
use Rattle.versions_bytes.proofs.FitLaw.{handed_on}

module _ (γ : Geometry) where
  pub record Fields (bound : ℕ) (ν : Versions) : Type 0 where
    pub newest : (part block : ℕ) → ν.newest part ≡ Some block → is_block γ block ≡ true
    pub no_more : (part : ℕ) → last_part < part → ν.newest part ≡ None
    pub records : all ν.records (is_record γ) ≡ true
    pub reserve : ν.reserve < bound
    pub taken : ν.taken < bound

  pub fields : (ν : Versions) → Fits γ ν → Fields (256 ^ field_size) ν
  fields ν h = record { newest = h.newest; no_more = h.no_more; records = h.records; reserve = h.reserve; taken = h.taken }

  pub fits : (ν : Versions) → is_sound γ ν ≡ true → Fields (256 ^ field_size) ν → Fits γ ν
  fits ν s h = record { sound = s; newest = h.newest; no_more = h.no_more; records = h.records; reserve = h.reserve; taken = h.taken }

-- γ is any proper geometry
module _ {γ : Geometry} (σ : Proper γ) (bound : ℕ) (ν : Versions) (h : Fields γ bound ν) where
  -- with the two blocks' numbers cut to their fields
  abbrev cut : Versions
  cut = versions_of ν.lock ν.newest ν.records (ν.reserve % 256 ^ field_size) (ν.taken % 256 ^ field_size)

  cut_bytes : state_bytes γ cut ≡ state_bytes γ ν
  unfolding state_bytes
  cut_bytes =
      ap₂
      (λ (reserve taken : List ℕ).
      bytes field_size ν.lock
      ++ (reserve ++ (taken ++ (bytes field_size (length ν.records) ++ (newest_bytes ν.newest 0 parts ++ records_area γ ν.records)))))
      (bytes_mod field_size ν.reserve) (bytes_mod field_size ν.taken)

  pub fields_valid : is_sound γ ν ≡ true → is_valid γ (state_bytes γ ν) ≡ true
  unfolding is_sound
  fields_valid s =
      ap (is_valid γ) (sym cut_bytes)
      ∙ (handed_on σ cut
      (fits γ cut s
      record {
        newest = h.newest;
        no_more = h.no_more;
        records = h.records;
        reserve = mod-lt ν.reserve (lit< tt);
        taken = mod-lt ν.taken (lit< tt);
      })
      ).valid
