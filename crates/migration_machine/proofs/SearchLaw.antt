-- The version store finds the same free blocks in an old box and in that box with its memory migrated. Assumes nothing.
use mathlib.Core.Path.{◌≡◌, ap}
use mathlib.Core.Bool.{Bool, ◌&&◌, not}
use Prim.Native.Nat.{ℕ}
use lib.ListN.{length}
use lib.Dec.{eqb, leb}
use Rattle.lockpage.specs.Geometry.{Geometry, Proper, widened}
use Rattle.lockpage.specs.State.{state}
use Rattle.memory.specs.Layout.{memory_size}
use Rattle.machine.specs.Command.{Box}
use Rattle.versions_machine.specs.Versions.{Range}
use Rattle.versions_machine.specs.Allocation.{blocks_of, those, going_round, first_that, is_free, is_available, next_available, two_available}
use Rattle.migration_machine.specs.Migrate.{Wider}
use Rattle.migration_machine.specs.Promise.{moved_box}
use Rattle.migration_machine.proofs.BoxLaw.{current_entry_moves}

-- γ is the old box's geometry, and the new one has n groups at most
module _ {γ : Geometry} (σ : Proper γ) {n : ℕ} (ω : Wider γ n) (s : Box) (l : length s.memory ≡ memory_size γ) (now reserve : ℕ) where
  -- of every block
  available_moves : is_available (widened γ n) (moved_box γ n s) now reserve ≡ is_available γ s now reserve
  unfolding is_available
  available_moves = λ i. λ a. is_free (state now (current_entry_moves σ ω s l a i)) && not (eqb a reserve)

  pub next_moves : (ρ : Range) (taken : ℕ)
      → next_available (widened γ n) ρ (moved_box γ n s) now reserve taken ≡ next_available γ ρ s now reserve taken
  unfolding next_available
  next_moves ρ taken = ap (λ (test : ℕ → Bool). first_that test (going_round ρ taken) taken) available_moves

  pub two_move : (ρ : Range) → two_available (widened γ n) ρ (moved_box γ n s) now reserve ≡ two_available γ ρ s now reserve
  unfolding two_available
  two_move ρ = ap (λ (test : ℕ → Bool). leb 2 (length (those test (blocks_of ρ)))) available_moves
