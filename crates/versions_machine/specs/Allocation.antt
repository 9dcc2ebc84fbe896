-- Which block is taken next, after document 02, Q-3: "Each taking is of the next free block after the one last taken (block 0 at
-- first), going round, never the reserved one; lapsed blocks are used again." Assumes nothing: these are definitions.
use Rattle.std.specs.Prelude.{Bool, true, false, ◌&&◌, not, List, [], ◌∷◌, ◌++◌, ℕ, zero, suc, ◌+◌, length, eqb, leb, ltb}
use Rattle.lockpage.specs.Geometry.{Geometry}
use Rattle.lockpage.specs.declared.State.{State}
use Rattle.lockpage.specs.declared.State.TheVariants.{Free, Frozen, Counting}
use Rattle.lockpage.specs.State.{state}
use Rattle.addressing.specs.Map.{data_blocks}
use Rattle.machine.specs.Command.{Box}
use Rattle.machine.specs.Tag.{current_entry}
use Rattle.versions_machine.specs.Versions.{Range, Versions}

-- n blocks, from a on
unfoldable pub blocks_from : ℕ → ℕ → List ℕ
blocks_from a zero = []
blocks_from a (suc n) = a ∷ blocks_from (a + 1) n

-- those of a list that pass a test, in order
unfoldable pub those : {A : Type 0} → (A → Bool) → List A → List A
those test [] = []
those test (a ∷ rest) = elim (test a) [ true ↦ a ∷ those test rest | false ↦ those test rest ]

-- the blocks of a range
abbrev pub blocks_of : Range → List ℕ
blocks_of ρ = blocks_from ρ.first ρ.number

-- "after the one last taken .., going round": those behind it, and then those up to it
unfoldable pub going_round : Range → ℕ → List ℕ
going_round ρ taken = those (λ a. ltb taken a) (blocks_of ρ) ++ those (λ a. leb a taken) (blocks_of ρ)

-- the first of some blocks that passes a test, or another where none does
unfoldable pub first_that : (ℕ → Bool) → List ℕ → ℕ → ℕ
first_that test [] other = other
first_that test (a ∷ rest) other = elim (test a) [ true ↦ a | false ↦ first_that test rest other ]

abbrev pub is_free : State → Bool
is_free Free = true
is_free Frozen = false
is_free Counting = false

-- the blocks that the store may use, now: "block 0", and all the other data blocks of a box with so many groups
abbrev pub first_block : ℕ
first_block = 0

module _ (γ : Geometry) where
  abbrev pub whole_box : ℕ → Range
  whole_box groups = record { first = first_block; number = data_blocks γ groups }

  -- block a is free at now, and it isn't the reserve. A lapsed block is free
  unfoldable pub is_available : Box → ℕ → ℕ → ℕ → Bool
  is_available s now reserve a = is_free (state now (current_entry γ s a)) && not (eqb a reserve)

  -- "the next free block after the one last taken .., never the reserved one". Where question 14 has yes there is one
  unfoldable pub next_available : Range → Box → ℕ → ℕ → ℕ → ℕ
  next_available ρ s now reserve taken = first_that (is_available s now reserve) (going_round ρ taken) taken

  -- for a store
  abbrev pub next_for : Range → Box → ℕ → Versions → ℕ
  next_for ρ s now ν = next_available ρ s now ν.reserve ν.taken

  -- not "fewer than two blocks free besides the reserved one"
  unfoldable pub two_available : Range → Box → ℕ → ℕ → Bool
  two_available ρ s now reserve = leb 2 (length (those (is_available s now reserve) (blocks_of ρ)))
