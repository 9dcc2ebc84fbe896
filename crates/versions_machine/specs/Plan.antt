-- The commands of a put and of a log block, each as the store gives it to the controller, after document 02, Q-3. Assumes nothing: these
-- are definitions.
use Rattle.std.specs.Prelude.{true, false, List, [], ◌∷◌, ◌++◌, ℕ, eqb, Option, Some, None}
use Rattle.octets.specs.Part.{repeated}
use Rattle.lockpage.specs.Geometry.{Geometry}
use Rattle.lockpage.specs.declared.Update.{Update}
use Rattle.lockpage.specs.declared.Update.TheVariants.{Write, Unfreeze, Increment}
use Rattle.addressing.specs.Map.{group_of}
use Rattle.machine.specs.Command.{Box, Command, command_of, answer_size}
use Rattle.machine.specs.Tag.{tagged, current_page}
use Rattle.machine.specs.Step.{step}
use Rattle.versions_machine.specs.Versions.{Range, Versions, entered, logged}
use Rattle.versions_machine.specs.Log.{log_block, is_full}
use Rattle.versions_machine.specs.Allocation.{next_for}

-- ---- a command of the store's, but for the page that it brings

pub record Order : Type 0 where
  pub update : Update
  pub block : ℕ
  pub now : ℕ
  pub content : List ℕ

abbrev pub order_of : Update → ℕ → ℕ → List ℕ → Order
order_of update block now content = record { update = update; block = block; now = now; content = content }

abbrev pub writing : ℕ → ℕ → ℕ → List ℕ → Order
writing block now lock content = order_of (Write lock) block now content

abbrev pub unfreezing : ℕ → ℕ → Order
unfreezing block now = order_of Unfreeze block now []

-- its kind and its value
abbrev pub kind_number : Update → ℕ
kind_number (Write lock) = 4
kind_number Unfreeze = 5
kind_number (Increment value) = 6

abbrev pub value_of : Update → ℕ
value_of (Write lock) = lock
value_of Unfreeze = 0
value_of (Increment value) = value

-- what several of them come to: the number of the first that is refused, or 0, and the box
pub record Carried : Type 0 where
  pub number : ℕ
  pub box : Box

abbrev pub carried_of : ℕ → Box → Carried
carried_of number box = record { number = number; box = box }

-- what a call is to do: its commands, in order, and the state after
pub record Plan : Type 0 where
  pub orders : List Order
  pub after : Versions

abbrev pub plan_of : List Order → Versions → Plan
plan_of orders after = record { orders = orders; after = after }

-- "and then unfreezes the version it replaces"
unfoldable pub unfreezes : Option ℕ → ℕ → List Order
unfreezes None now = []
unfreezes (Some block) now = unfreezing block now ∷ []

module _ (γ : Geometry) where
  -- given to a box: it brings the current page of the block's group with its tag, as kind 3 answers them
  abbrev pub given : Box → Order → Command
  given s o =
      command_of (kind_number o.update) o.block o.now (value_of o.update) o.content
      (tagged γ s.memory (group_of γ o.block) (current_page γ s (group_of γ o.block))) (repeated (answer_size γ) 0)

  -- one after the other, up to the first that is refused
  unfoldable pub carried_out : Box → List Order → Carried
  carried_out s [] = carried_of 0 s
  carried_out s (o ∷ os) =
      elim (eqb (step γ s (given s o)).number 0) [
        | true ↦ carried_out (step γ s (given s o)).box os
        | false ↦ carried_of (step γ s (given s o)).number s
      ]

  -- a log block, "stored with lock R" in the reserve, its pointer "to the next block, taken as reserve then"
  unfoldable pub log_plan : Range → Versions → Box → ℕ → Plan
  log_plan ρ ν s now =
      let pointer = next_for γ ρ s now ν in
      plan_of (writing ν.reserve now ν.lock (log_block γ ν.records pointer) ∷ []) (logged ν pointer)

  -- "when full, last in its put"
  unfoldable pub due_plan : Range → Versions → Box → ℕ → Plan
  due_plan ρ ν s now = elim (is_full γ ν) [ true ↦ log_plan ρ ν s now | false ↦ plan_of [] ν ]

  -- it "puts each one-block version into a free block with a lock R .. and then unfreezes the version it replaces"
  unfoldable pub version_orders : Versions → ℕ → ℕ → ℕ → List ℕ → List Order
  version_orders ν part block now content = writing block now ν.lock content ∷ unfreezes (ν.newest part) now

  -- a put: the record is entered before the log block is made, and the next reserve taken from the box that those commands left
  unfoldable pub put_plan : Range → Versions → Box → ℕ → ℕ → List ℕ → Plan
  put_plan ρ ν s part now content =
      let block = next_for γ ρ s now ν in
      let own = version_orders ν part block now content in
      let due = due_plan ρ (entered ν part block) (carried_out s own).box now in
      plan_of (own ++ due.orders) due.after
