-- What the commands of a call will be refused by, from what is read before the first of them, after document 02, Q-3: "A put whose commands
-- wouldn't all be accepted gets the first such number and alters nothing". Assumes nothing: these are definitions.
use Rattle.std.specs.Prelude.{true, false, List, [], ◌∷◌, ℕ, ◌+◌, length, eqb, ltb}
use Rattle.lockpage.specs.Geometry.{Geometry}
use Rattle.lockpage.specs.declared.Entry.{Entry}
use Rattle.lockpage.specs.State.{state}
use Rattle.lockpage.specs.Update.{updated, allowed, within_limit}
use Rattle.addressing.specs.Map.{data_blocks, group_of}
use Rattle.memory.specs.Claims.{changed}
use Rattle.validity.specs.Valid.{count_limit}
use Rattle.machine.specs.declared.Kind.TheVariants.{Change}
use Rattle.machine.specs.Question.{Question, Put, first_no, content_length}
use Rattle.versions_machine.specs.Plan.{Order}

-- the entries after an order
abbrev pub entries_after : (ℕ → Entry) → Order → ℕ → Entry
entries_after entries o a = elim (eqb a o.block) [ true ↦ updated o.update o.now (entries a) | false ↦ entries a ]

module _ (γ : Geometry) where
  -- the questions that can still say no to an order, where 1, 2 and 4 have yes: it brings the right tag and buffers of the right length.
  -- The count is its group's, the entry its block's
  abbrev pub questions_left : ℕ → ℕ → Entry → Order → List Question
  questions_left groups count e o =
      Put 5 (ltb o.block (data_blocks γ groups))
      ∷ Put 6 (eqb (length o.content) (content_length γ (Change o.update)))
      ∷ Put 8 (ltb count count_limit)
      ∷ Put 9 (allowed o.update (state o.now e))
      ∷ Put 10 (within_limit (updated o.update o.now e))
      ∷ []

  -- the counts after it
  abbrev pub counts_after : (ℕ → ℕ) → Order → ℕ → ℕ
  counts_after counts o = changed counts (group_of γ o.block) (counts (group_of γ o.block) + 1)

  -- the number of the first order that will be refused, or 0, in a box with so many groups, these counts and these entries
  unfoldable pub foreseen : ℕ → (ℕ → ℕ) → (ℕ → Entry) → List Order → ℕ
  foreseen groups counts entries [] = 0
  foreseen groups counts entries (o ∷ os) =
      elim (eqb (first_no (questions_left groups (counts (group_of γ o.block)) (entries o.block) o)) 0) [
        | true ↦ foreseen groups (counts_after counts o) (entries_after entries o) os
        | false ↦ first_no (questions_left groups (counts (group_of γ o.block)) (entries o.block) o)
      ]
