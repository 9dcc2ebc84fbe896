-- A log block fills a block, whatever its pointer is. Assumes nothing.
use mathlib.Core.Path.{◌≡◌, refl, sym, ◌∙◌}
use mathlib.Core.List.{List, [], ◌∷◌, ◌++◌}
use Prim.Native.Nat.{ℕ, ◌+◌, ◌*◌, ◌-◌, ◌≤◌}
use native.Mathlib.Omega.{arith}
use lib.ListN.{length, length-append}
use Rattle.octets.specs.Part.{repeated}
use Rattle.octets.specs.Number.{bytes}
use Rattle.octets.proofs.NumberLaw.{bytes_length}
use Rattle.octets.proofs.RepeatedLaw.{repeated_length}
use Rattle.lockpage.specs.Geometry.{Geometry, Proper}
use Rattle.lockpage.specs.Size.{block_size}
use Rattle.versions_machine.specs.Versions.{Record}
use Rattle.versions_machine.specs.Log.{record_field, record_size, record_bytes, records_bytes, pointer_size, unused, records_per_block, log_block}

pub record_length : (x : Record) → length (record_bytes x) ≡ record_size
unfolding record_bytes
record_length x =
    length-append (bytes record_field x.part) (bytes record_field x.block)
    ∙ omega (arith, bytes_length record_field x.part, bytes_length record_field x.block)

pub records_length : (xs : List Record) → length (records_bytes xs) ≡ record_size * length xs
unfolding records_bytes
records_length [] = refl
records_length (x ∷ xs) =
    length-append (record_bytes x) (records_bytes xs) ∙ omega (arith, record_length x, records_length xs)

module _ (γ : Geometry) where
  log_parts : (xs : List Record) (pointer : ℕ)
      → length (log_block γ xs pointer) ≡ record_size * length xs + (record_size * (records_per_block γ - length xs) + pointer_size)
  unfolding log_block
  log_parts xs pointer =
      let rest = repeated (record_size * (records_per_block γ - length xs)) unused in
      let end = bytes pointer_size pointer in
      length-append (records_bytes xs) (rest ++ end)
      ∙ omega (
        arith,
        length-append rest end,
        records_length xs,
        repeated_length (record_size * (records_per_block γ - length xs)) unused,
        bytes_length pointer_size pointer,
      )

  pub log_alike : (xs : List Record) (p q : ℕ) → length (log_block γ xs p) ≡ length (log_block γ xs q)
  log_alike xs p q = log_parts xs p ∙ sym (log_parts xs q)

module _ {γ : Geometry} (σ : Proper γ) where
  pub log_length : (xs : List Record) (pointer : ℕ) → length xs ≤ records_per_block γ → length (log_block γ xs pointer) ≡ block_size γ
  log_length xs pointer h = log_parts γ xs pointer ∙ omega (arith, σ.some_entries)
