-- The migration of an old box's memory, after document 02, Q-7: "A separate entry turns a valid 616-byte memory into the 808-byte one".
-- The old box is of geometry γ, the new one has n groups at most. Assumes nothing: these are definitions.
use Rattle.std.specs.Prelude.{true, false, ◌&&◌, List, [], ◌∷◌, ◌++◌, ℕ, ◌-◌, ◌≤◌, length, eqb}
use Rattle.octets.specs.Part.{part, repeated}
use Rattle.lockpage.specs.Geometry.{Geometry, Proper, widened}
use Rattle.memory.specs.Layout.{memory_size, counts_start, time_start, page_start}
use Rattle.memory.specs.Memory.{salt, held_page}
use Rattle.validity.specs.Valid.{valid}
use Rattle.machine.specs.Question.{Question, Put, first_no}
use Rattle.machine.specs.Call.{ByteSlice}

-- what it leaves: its number, and the buffer for the new memory
pub record Migration : Type 0 where
  pub number : ℕ
  pub memory : List ℕ

abbrev pub migration_of : ℕ → List ℕ → Migration
migration_of number memory = record { number = number; memory = memory }

-- what the buffer's reference shows, at exit
abbrev pub migration_at : ℕ → ByteSlice → Migration
migration_at number memory = migration_of number memory

-- the new box has no fewer groups than the old one, and is proper: what the theorems ask
pub record Wider (γ : Geometry) (n : ℕ) : Type 0 where
  pub more : γ.most_groups ≤ n
  pub proper : Proper (widened γ n)

module _ (γ : Geometry) where
  -- the counts of all groups, as they stand
  abbrev pub counts : List ℕ → List ℕ
  counts m = part m counts_start (time_start γ - counts_start)

  -- the fields between them and the page: last time, G, held group, count of updates, zero
  abbrev pub small_fields : List ℕ → List ℕ
  small_fields m = part m (time_start γ) (page_start γ - time_start γ)

  module _ (n : ℕ) where
    -- "The memory has 64 counts, so it is 808 bytes: counts 32..287, last time 288, G 292, held 293, update count 294, zero 295, page
    -- 296..807": every field of the old memory, and between the counts and the rest zeros for the counts that are new
    unfoldable pub migrated : List ℕ → List ℕ
    migrated old =
        salt old
        ++ (counts old ++ (repeated (time_start (widened γ n) - time_start γ) 0 ++ (small_fields old ++ held_page γ old)))

    -- "(a memory not 616 bytes and valid, or a room not 808 bytes, gets 1)"
    unfoldable pub migrate_questions : List ℕ → List ℕ → List Question
    migrate_questions old buffer = Put 1 (valid γ old && eqb (length buffer) (memory_size (widened γ n))) ∷ []

    unfoldable pub migrate : List ℕ → List ℕ → Migration
    migrate old buffer =
        elim (eqb (first_no (migrate_questions old buffer)) 0) [
          | true ↦ migration_of 0 (migrated old)
          | false ↦ migration_of (first_no (migrate_questions old buffer)) buffer
        ]
