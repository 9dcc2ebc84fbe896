-- The memory of formatting: what its fields read. Assumes nothing.
use mathlib.Core.Path.{◌≡◌, ◌∙◌}
use mathlib.Core.List.{List}
use Prim.Native.Nat.{ℕ, ◌+◌, ◌-◌, ◌≤◌, ◌<◌}
use native.Mathlib.Omega.{arith}
use lib.ListN.{length}
use Rattle.octets.specs.Part.{part, repeated}
use Rattle.octets.proofs.RepeatedLaw.{repeated_length, repeated_part}
use Rattle.octets.proofs.NumberLaw.{number_at_zeros}
use Rattle.lockpage.specs.Geometry.{Geometry, Proper}
use Rattle.lockpage.specs.Size.{page_size}
use Rattle.memory.specs.Layout.{memory_size, salt_size, count_start, count_size, time_start, time_size, update_count_start, byte_size, reserved_start, reserved_size}
use Rattle.memory.specs.Layout.{page_start}
use Rattle.memory.specs.Memory.{count, last_time, none, update_count, held_page, with_salt, with_groups, formatted_memory}
use Rattle.memory.specs.Claims.{Reads}
use Rattle.memory.proofs.FieldLaw.{salt_in, salt_rest, groups_in, held_in, salt_set, groups_set, held_set}

-- γ is any proper geometry
module _ {γ : Geometry} (σ : Proper γ) where
  -- a memory of zeros
  blank : List ℕ
  blank = repeated (memory_size γ) 0

  blank_size : length blank ≡ memory_size γ
  unfolding blank
  blank_size = repeated_length (memory_size γ) 0

  blank_part : (at k : ℕ) → at + k ≤ memory_size γ → part blank at k ≡ repeated k 0
  unfolding blank
  blank_part at k h = repeated_part (memory_size γ) 0 at k h

  module _ (g : ℕ) (s : List ℕ) (small : g < 256) (size : length s ≡ salt_size) where
    pub formatted_reads : Reads γ (formatted_memory γ g s) s (λ k. 0) 0 g none 0 (repeated (page_size γ) 0)
    unfolding formatted_memory blank count last_time update_count held_page
    formatted_reads =
        let a = salt_set σ blank blank_size s size in
        let b = groups_set σ (with_salt blank s) a.size g small in
        let c = held_set σ (with_groups γ (with_salt blank s) g) b.size none (omega arith) in
        record {
          size = c.size;
          salt = c.salt ∙ b.salt ∙ a.salt;
          count =
              λ k h.
              c.count k h ∙ b.count k h ∙ a.count k h
              ∙ number_at_zeros blank (count_start k) count_size (blank_part (count_start k) count_size (omega arith));
          time = c.time ∙ b.time ∙ a.time ∙ number_at_zeros blank (time_start γ) time_size (blank_part (time_start γ) time_size (omega arith));
          groups = c.groups ∙ b.groups;
          held = c.held;
          updates =
              c.updates ∙ b.updates ∙ a.updates
              ∙ number_at_zeros blank (update_count_start γ) byte_size (blank_part (update_count_start γ) byte_size (omega arith));
          page = c.page ∙ b.page ∙ a.page ∙ blank_part (page_start γ) (page_size γ) (omega arith);
        }

  -- its counts from group g on, and the byte that is 0, are zeros
  pub formatted_zeros : (g : ℕ) (s : List ℕ) → length s ≡ salt_size → g ≤ γ.most_groups
      → (part (formatted_memory γ g s) (count_start g) (time_start γ - count_start g) ≡ repeated (time_start γ - count_start g) 0)
      × (part (formatted_memory γ g s) (reserved_start γ) reserved_size ≡ repeated reserved_size 0)
  unfolding formatted_memory blank
  formatted_zeros g s size most =
      let a = salt_in σ blank blank_size s size in
      let b = groups_in σ (with_salt blank s) (a.size ∙ blank_size) g in
      let c = held_in σ (with_groups γ (with_salt blank s) g) (b.size ∙ a.size ∙ blank_size) none in
      let rest : ℕ = time_start γ - count_start g in (
        c.front (count_start g) rest (omega arith)
            ∙ b.front (count_start g) rest (omega arith)
            ∙ salt_rest σ blank blank_size s size (count_start g) rest (omega arith)
            ∙ blank_part (count_start g) rest (omega arith),
        c.reserved ∙ b.reserved ∙ a.back (reserved_start γ) reserved_size (omega arith) ∙ blank_part (reserved_start γ) reserved_size (omega arith),
      )
