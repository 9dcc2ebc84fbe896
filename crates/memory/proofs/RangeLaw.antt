-- The range of the fields of a memory of bytes, and that a change leaves it a memory of bytes. Assumes nothing.
use mathlib.Core.List.{List}
use Prim.Native.Nat.{ℕ, ◌-◌, ◌<◌}
use native.Mathlib.Omega.{arith}
use Rattle.octets.specs.Part.{AreBytes, repeated}
use Rattle.octets.proofs.BelowLaw.{below_part, below_replaced}
use Rattle.octets.proofs.RepeatedLaw.{repeated_below}
use Rattle.octets.proofs.NumberLaw.{with_number_are, number_at_small}
use Rattle.lockpage.specs.Geometry.{Geometry, Proper}
use Rattle.lockpage.specs.Size.{page_size}
use Rattle.memory.specs.Layout.{memory_size, salt_start, counts_start, count_size, time_start, time_size, groups_start, held_start, update_count_start, byte_size}
use Rattle.memory.specs.Layout.{page_start}
use Rattle.memory.specs.Memory.{groups, none, held_page, with_salt, with_count, with_no_counts, with_last_time, with_groups, with_held, with_update_count}
use Rattle.memory.specs.Memory.{with_held_page, holding, holding_none, formatted_memory}

-- γ is any proper geometry
module _ {γ : Geometry} (σ : Proper γ) where
  module _ (m : List ℕ) (b : AreBytes m) where
    -- ---- the fields

    pub held_page_bytes : AreBytes (held_page γ m)
    unfolding held_page
    held_page_bytes = below_part 256 m (page_start γ) (page_size γ) b

    pub groups_small : groups γ m < 256
    unfolding groups
    groups_small = number_at_small m (groups_start γ) byte_size b

    -- ---- the changes

    pub with_salt_bytes : (s : List ℕ) → AreBytes s → AreBytes (with_salt m s)
    unfolding with_salt
    with_salt_bytes s c = below_replaced 256 m salt_start s b c

    pub with_count_bytes : (g n : ℕ) → AreBytes (with_count m g n)
    unfolding with_count
    with_count_bytes g n = with_number_are m _ count_size n b

    pub with_no_counts_bytes : AreBytes (with_no_counts γ m)
    unfolding with_no_counts
    with_no_counts_bytes =
        below_replaced 256 m counts_start (repeated (time_start γ - counts_start) 0) b (repeated_below 256 (time_start γ - counts_start) 0 (omega arith))

    pub with_last_time_bytes : (t : ℕ) → AreBytes (with_last_time γ m t)
    unfolding with_last_time
    with_last_time_bytes t = with_number_are m (time_start γ) time_size t b

    pub with_groups_bytes : (g : ℕ) → AreBytes (with_groups γ m g)
    unfolding with_groups
    with_groups_bytes g = with_number_are m (groups_start γ) byte_size g b

    pub with_held_bytes : (g : ℕ) → AreBytes (with_held γ m g)
    unfolding with_held
    with_held_bytes g = with_number_are m (held_start γ) byte_size g b

    pub with_update_count_bytes : (n : ℕ) → AreBytes (with_update_count γ m n)
    unfolding with_update_count
    with_update_count_bytes n = with_number_are m (update_count_start γ) byte_size n b

    pub with_held_page_bytes : (p : List ℕ) → AreBytes p → AreBytes (with_held_page γ m p)
    unfolding with_held_page
    with_held_page_bytes p c = below_replaced 256 m (page_start γ) p b c

  pub holding_bytes : (m : List ℕ) → AreBytes m → (g n : ℕ) (p : List ℕ) → AreBytes p → AreBytes (holding γ m g n p)
  unfolding holding
  holding_bytes m b g n p c =
      with_held_page_bytes (with_update_count γ (with_held γ m g) n) (with_update_count_bytes (with_held γ m g) (with_held_bytes m b g) n) p c

  pub holding_none_bytes : (m : List ℕ) → AreBytes m → AreBytes (holding_none γ m)
  unfolding holding_none
  holding_none_bytes m b = holding_bytes m b none 0 (repeated (page_size γ) 0) (repeated_below 256 (page_size γ) 0 (omega arith))

  pub formatted_bytes : (g : ℕ) (s : List ℕ) → AreBytes s → AreBytes (formatted_memory γ g s)
  unfolding formatted_memory
  formatted_bytes g s c =
      let zeros = repeated_below 256 (memory_size γ) 0 (omega arith) in
      let salted = with_salt_bytes (repeated (memory_size γ) 0) zeros s c in
      with_held_bytes (with_groups γ (with_salt (repeated (memory_size γ) 0) s) g) (with_groups_bytes (with_salt (repeated (memory_size γ) 0) s) salted g) none
