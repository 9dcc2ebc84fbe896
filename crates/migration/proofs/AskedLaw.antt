-- What the code asks of an old memory, in the words of the migration's question. Assumes nothing.
use mathlib.Core.Path.{refl, sym, ◌≡◌}
use mathlib.Core.Bool.{Bool, true, false, ◌&&◌}
use mathlib.Core.List.{List, [], ◌∷◌}
use Prim.Native.Nat.{ℕ, ◌≤◌}
use native.Mathlib.Omega.{arith}
use lib.Dec.{eqb}
use lib.ListN.{length}
use Rattle.std.proofs.lemmas.Bool.Decides.{nat_tests}
use Rattle.lockpage.specs.Geometry.{base, present}
use Rattle.lockpage.proofs.GeometryLaw.{base_proper as σ}
use Rattle.memory.specs.Layout.{memory_size}
use Rattle.memory.specs.Memory.{groups}
use Rattle.validity.specs.Valid.{valid}
use Rattle.validity.proofs.ValidLaw.{facts}
use Rattle.machine.specs.Question.{Put, first_no}
use Rattle.migration_machine.specs.Migrate.{Migration, migration_of, migrated, migrate, migrate_questions}
use Rattle.migration_machine.proofs.FieldLaw.{migrated_groups}
use Rattle.migration_machine.proofs.ValidLaw.{valid_moves}
use Rattle.migration_machine.proofs.Theorems.{present_wider as ω}

-- a valid old memory has its size, and few groups
pub old_size : (old : List ℕ) → valid base old ≡ true → length old ≡ memory_size base
old_size old v = (facts σ old v).size

pub old_groups : (old : List ℕ) → valid base old ≡ true → groups base old ≤ base.most_groups
old_groups old v = (facts σ old v).most

-- what is read of the old memory, laid out as new
pub new_groups : (old : List ℕ) → length old ≡ memory_size base → groups present (migrated base present.most_groups old) ≡ groups base old
new_groups old l = migrated_groups σ ω old l

pub new_valid : (old : List ℕ) → length old ≡ memory_size base → groups present (migrated base present.most_groups old) ≤ base.most_groups
    → valid present (migrated base present.most_groups old) ≡ valid base old
new_valid old l few = valid_moves σ ω old l (omega (arith, new_groups old l))

-- the migration's one question, by its answer
abbrev answered : Bool → List ℕ → List ℕ → Migration
answered b old buffer = elim b [ true ↦ migration_of 0 (migrated base present.most_groups old) | false ↦ migration_of 1 buffer ]

pub migrate_is : (old buffer : List ℕ)
    → migrate base present.most_groups old buffer ≡ answered (valid base old && eqb (length buffer) (memory_size present)) old buffer
unfolding migrate migrate_questions first_no
migrate_is old buffer = sym (go (valid base old && eqb (length buffer) (memory_size present)))
  where
    go : (b : Bool) → answered b old buffer
        ≡ elim (eqb (first_no (Put 1 b ∷ [])) 0) [
          | true ↦ migration_of 0 (migrated base present.most_groups old)
          | false ↦ migration_of (first_no (Put 1 b ∷ [])) buffer
        ]
    go true = refl
    go false = refl

-- what `migrate` cites
pub ruleset old_memory = (old_size, old_groups, new_groups, new_valid, migrate_is, nat_tests)
