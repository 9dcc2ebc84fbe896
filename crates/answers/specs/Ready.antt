-- What holds where a command that shows something is carried out, since the questions have seen to it; and what an effect without a disk
-- leaves. Assumes nothing: these are definitions.
use Rattle.std.specs.Prelude.{◌≡◌, List, ℕ, ◌<◌, length}
use Rattle.lockpage.specs.Geometry.{Geometry}
use Rattle.addressing.specs.Map.{data_blocks}
use Rattle.memory.specs.Memory.{groups}
use Rattle.machine.specs.Command.{Box, answer_size, box_of, outcome_of}
use Rattle.machine.specs.Effect.{Effect}
use Rattle.machine.specs.Step.{accepted}
use Rattle.machine.specs.Claims.{ValidBox}

-- γ is the box's geometry
module _ (γ : Geometry) where
  -- a valid box, one of its blocks, and a buffer for the answer: questions 1, 2, 5 and 6
  pub record BlockReady (s : Box) (a : ℕ) (answer : List ℕ) : Type 0 where
    pub box : ValidBox γ s
    pub block : a < data_blocks γ (groups γ s.memory)
    pub answer_size_is : length answer ≡ answer_size γ

  -- the same of one of its groups
  pub record GroupReady (s : Box) (g : ℕ) (answer : List ℕ) : Type 0 where
    pub box : ValidBox γ s
    pub group : g < groups γ s.memory
    pub answer_size_is : length answer ≡ answer_size γ

  -- the outcome of an effect that has to do with no disk: on every one
  abbrev pub OnEveryDisk : (Box → Effect) → List ℕ → ℕ → List ℕ → List ℕ → Type 0
  OnEveryDisk effect m now memory answer = (disk : List ℕ) → outcome_of 0 memory disk answer ≡ accepted γ effect (box_of m disk) now
