-- The number of a migration, and what an accepted and a refused one leave. Assumes nothing.
use mathlib.Core.Path.{◌≡◌, refl, ap, sym, ◌∙◌}
use mathlib.Core.Bool.{Bool, true, false, ◌&&◌}
use mathlib.Mathlib.Data.Bool.Basic.{and_intro, and_elim_left, and_elim_right}
use mathlib.Core.List.{List}
use Prim.Native.Nat.{ℕ}
use native.Mathlib.Omega.{arith}
use borrow.Author.Tests.{eq-eqb, ne_eqb, eqb-true}
use lib.Dec.{eqb}
use lib.ListN.{length}
use Rattle.lockpage.specs.Geometry.{Geometry, widened}
use Rattle.memory.specs.Layout.{memory_size}
use Rattle.validity.specs.Valid.{valid}
use Rattle.machine.specs.Question.{first_no}
use Rattle.machine.proofs.CaseLaw.{same_or_not}
use Rattle.migration_machine.specs.Migrate.{migration_of, migrated, migrate_questions, migrate}

module _ (γ : Geometry) (n : ℕ) (old buffer : List ℕ) where
  abbrev first : ℕ
  first = first_no (migrate_questions γ n old buffer)

  abbrev asked : Bool
  asked = valid γ old && eqb (length buffer) (memory_size (widened γ n))

  migrate_yes : first ≡ 0 → migrate γ n old buffer ≡ migration_of 0 (migrated γ n old)
  unfolding migrate
  migrate_yes e = rw (migrate, eq-eqb first 0 e)

  migrate_no : (first ≡ 0 → ⊥) → migrate γ n old buffer ≡ migration_of first buffer
  unfolding migrate
  migrate_no h = rw (migrate, ne_eqb first 0 h)

  pub migrate_number : (migrate γ n old buffer).number ≡ first
  migrate_number = same_or_not first 0 (λ e. ap (λ r. r.number) (migrate_yes e) ∙ sym e) (λ h. ap (λ r. r.number) (migrate_no h))

  pub migrate_refused : ((migrate γ n old buffer).number ≡ 0 → ⊥) → (migrate γ n old buffer).memory ≡ buffer
  migrate_refused h = ap (λ r. r.memory) (migrate_no (λ e. h (migrate_number ∙ e)))

  -- ---- by what is asked

  first_is : (b : Bool) → asked ≡ b → first ≡ elim b [ true ↦ 0 | false ↦ 1 ]
  unfolding migrate_questions first_no
  first_is b e = ap (λ (x : Bool). elim x [ true ↦ 0 | false ↦ 1 ]) e

  pub accepts : valid γ old ≡ true → length buffer ≡ memory_size (widened γ n) → migration_of 0 (migrated γ n old) ≡ migrate γ n old buffer
  accepts v l = sym (migrate_yes (first_is true (and_intro v (eq-eqb (length buffer) (memory_size (widened γ n)) l))))

  pub refuses : (valid γ old ≡ true → length buffer ≡ memory_size (widened γ n) → ⊥) → migration_of 1 buffer ≡ migrate γ n old buffer
  refuses h = go asked refl
    where
      go : (b : Bool) → asked ≡ b → migration_of 1 buffer ≡ migrate γ n old buffer
      go true e =
          absurd
          (h (and_elim_left (valid γ old) (eqb (length buffer) (memory_size (widened γ n))) e)
          (eqb-true (length buffer) (memory_size (widened γ n)) (and_elim_right (valid γ old) (eqb (length buffer) (memory_size (widened γ n))) e)))
      go false e =
          let one = first_is false e in
          ap (λ (k : ℕ). migration_of k buffer) (sym one) ∙ sym (migrate_no (λ z. absurd (omega (arith, one))))
