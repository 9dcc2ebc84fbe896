-- What a reader wants to know of a migration, beside the promise. Each claim is a type; its proof has the claim's name in
-- proofs/Theorems.antt. γ is the old box's geometry, and the new box has n groups at most.
use Rattle.std.specs.Prelude.{◌≡◌, true, false, List, ℕ, ◌≤◌, length, ltb}
use Rattle.lockpage.specs.Geometry.{Geometry, widened}
use Rattle.memory.specs.Layout.{memory_size, salt_size}
use Rattle.memory.specs.Memory.{salt, count, last_time, groups, held, update_count, held_page, formatted_memory}
use Rattle.memory.specs.Claims.{Reads}
use Rattle.validity.specs.Valid.{valid}
use Rattle.machine.specs.Claims.{Passes, AnswersFirstNo}
use Rattle.migration_machine.specs.Migrate.{migrated, migrate_questions, migrate}

module _ (γ : Geometry) (n : ℕ) where
  -- ---- demands 1 and 2: its number

  unfoldable pub PassesIfAllYes : Type 0
  PassesIfAllYes = (old buffer : List ℕ) → Passes (migrate γ n old buffer).number (migrate_questions γ n old buffer)

  unfoldable pub NumberIsFirstNo : Type 0
  NumberIsFirstNo = (old buffer : List ℕ) → AnswersFirstNo (migrate γ n old buffer).number (migrate_questions γ n old buffer)

  unfoldable pub RefusalAltersNothing : Type 0
  RefusalAltersNothing = (old buffer : List ℕ) → ((migrate γ n old buffer).number ≡ 0 → ⊥) → (migrate γ n old buffer).memory ≡ buffer

  -- ---- what each field reads after

  -- the counts that there were, and 0 for the new ones
  abbrev pub count_migrated : List ℕ → ℕ → ℕ
  count_migrated old k = elim (ltb k γ.most_groups) [ true ↦ count old k | false ↦ 0 ]

  unfoldable pub MigratedReads : Type 0
  MigratedReads = (old : List ℕ) → length old ≡ memory_size γ
      → Reads (widened γ n) (migrated γ n old) (salt old) (count_migrated old) (last_time γ old) (groups γ old) (held γ old)
      (update_count γ old) (held_page γ old)

  unfoldable pub MigratedIsValid : Type 0
  MigratedIsValid = (old : List ℕ) → valid γ old ≡ true → valid (widened γ n) (migrated γ n old) ≡ true

  -- a box that was just formatted is, migrated, one that was just formatted: there are memories to migrate
  unfoldable pub FormattedMigrates : Type 0
  FormattedMigrates = (g : ℕ) (s : List ℕ) → 1 ≤ g → g ≤ γ.most_groups → length s ≡ salt_size
      → (valid γ (formatted_memory γ g s) ≡ true) × (migrated γ n (formatted_memory γ g s) ≡ formatted_memory (widened γ n) g s)
