-- The walk over the log, after document 02, Q-6: "The tool walks the log from block 0 and stops at a block that is free, out of range,
-- written after X, written before its parent, or already walked." Assumes nothing: these are definitions.
use Rattle.std.specs.Prelude.{Bool, true, false, ◌&&◌, not, ℕ, zero, suc, ◌+◌, eqb, leb, ltb}
use mathlib.Core.List.{List, [], ◌∷◌, any}
use Rattle.lockpage.specs.Geometry.{Geometry}
use Rattle.lockpage.specs.Entry.{time_of_write}
use Rattle.lockpage.specs.State.{state}
use Rattle.addressing.specs.Map.{physical}
use Rattle.disk.specs.Disk.{block}
use Rattle.machine.specs.Command.{Box}
use Rattle.machine.specs.Tag.{current_entry}
use Rattle.versions_machine.specs.Versions.{Range}
use Rattle.versions_machine.specs.Log.{pointer_read}
use Rattle.versions_machine.specs.Allocation.{is_free}

-- a block of the range
abbrev pub is_in_range : Range → ℕ → Bool
is_in_range ρ a = leb ρ.first a && ltb a (ρ.first + ρ.number)

module _ (γ : Geometry) where
  -- when block a was written, and what it has
  abbrev pub written_at : Box → ℕ → ℕ
  written_at s a = time_of_write (current_entry γ s a)

  abbrev pub content_of : Box → ℕ → List ℕ
  content_of s a = block γ s.disk (physical γ a)

  module _ (ρ : Range) (s : Box) (point now : ℕ) where
    -- "in range, not free and written by X", which is the point; free or not it is at now
    unfoldable pub is_kept : ℕ → Bool
    is_kept a = is_in_range ρ a && (not (is_free (state now (current_entry γ s a))) && leb (written_at s a) point)

    -- the walk doesn't stop at block a: beside that it isn't "written before its parent, or already walked". The parent is the block whose
    -- pointer led here, and was written at that time
    unfoldable pub goes_on : List ℕ → ℕ → ℕ → Bool
    goes_on walked parent a = is_kept a && (leb parent (written_at s a) && not (any walked (eqb a)))

    -- the blocks of the walk from block a on, n of them at most
    unfoldable pub walk_from : List ℕ → ℕ → ℕ → ℕ → List ℕ
    walk_from walked parent a zero = []
    walk_from walked parent a (suc n) =
        elim (goes_on walked parent a) [
          | true ↦ a ∷ walk_from (a ∷ walked) (written_at s a) (pointer_read γ (content_of s a)) n
          | false ↦ []
        ]

    -- "from block 0", the first of the range, which has no parent. By Claims, WalkEnds, it stops within as many blocks as there are
    unfoldable pub walk : List ℕ
    walk = walk_from [] 0 ρ.first ρ.number
