-- The counts and the entries between a put's commands, and the questions that are asked of them together. Assumes nothing: these are
-- definitions.
use Rattle.std.specs.Prelude.{List, [], ◌∷◌, ℕ, ◌+◌, ltb, Option, Some, None}
use Rattle.lockpage.specs.Geometry.{Geometry}
use Rattle.lockpage.specs.declared.Entry.{Entry}
use Rattle.lockpage.specs.declared.Update.{Update}
use Rattle.lockpage.specs.State.{state}
use Rattle.lockpage.specs.Update.{updated, allowed, within_limit}
use Rattle.addressing.specs.Map.{group_of}
use Rattle.memory.specs.Claims.{changed}
use Rattle.validity.specs.Valid.{count_limit}
use Rattle.machine.specs.Question.{Question, Put}
use Rattle.versions_machine.specs.Plan.{Order, order_of}
use Rattle.versions_machine.specs.Foresight.{counts_after, entries_after}

-- questions 8 to 10 of a command: the count is its group's, the entry its block's
abbrev pub last_questions : ℕ → Update → ℕ → Entry → List Question
last_questions count u now e =
    Put 8 (ltb count count_limit) ∷ Put 9 (allowed u (state now e)) ∷ Put 10 (within_limit (updated u now e)) ∷ []

-- the entries after several commands
abbrev pub entries_past : (ℕ → Entry) → List Order → ℕ → Entry
entries_past entries [] = entries
entries_past entries (o ∷ os) = entries_past (entries_after entries o) os

-- and after a command on a block or on none
unfoldable pub entries_for : (ℕ → Entry) → Update → Option ℕ → ℕ → ℕ → Entry
entries_for entries u None now = entries
entries_for entries u (Some block) now = entries_after entries (order_of u block now [])

-- γ is the box's geometry
module _ (γ : Geometry) where
  -- the counts after a command on block a
  abbrev pub raised : (ℕ → ℕ) → ℕ → ℕ → ℕ
  raised counts a = changed counts (group_of γ a) (counts (group_of γ a) + 1)

  -- and after one on a block or on none
  unfoldable pub raised_for : (ℕ → ℕ) → Option ℕ → ℕ → ℕ
  raised_for counts None = counts
  raised_for counts (Some a) = raised counts a

  -- and after several
  abbrev pub counts_past : (ℕ → ℕ) → List Order → ℕ → ℕ
  counts_past counts [] = counts
  counts_past counts (o ∷ os) = counts_past (counts_after γ counts o) os
