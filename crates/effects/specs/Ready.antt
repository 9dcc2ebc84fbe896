-- What holds where a command that stores something is carried out, since the questions have seen to it. Assumes nothing: these are
-- definitions.
use Rattle.std.specs.Prelude.{◌≡◌, true, List, ℕ, ◌≤◌, ◌<◌, length}
use Rattle.lockpage.specs.Geometry.{Geometry}
use Rattle.lockpage.specs.declared.Update.{Update}
use Rattle.lockpage.specs.Page.{entry_at}
use Rattle.lockpage.specs.Update.{latest_time, updated, within_limit}
use Rattle.addressing.specs.Map.{data_blocks, group_of, place_of}
use Rattle.memory.specs.Memory.{count, groups}
use Rattle.validity.specs.Valid.{count_limit, valid}
use Rattle.machine.specs.declared.Kind.TheVariants.{Change}
use Rattle.machine.specs.Command.{Box, Command, proof_size, brought_page, answer_size}
use Rattle.machine.specs.Question.{content_length}
use Rattle.machine.specs.Claims.{ValidBox}

-- γ is the box's geometry
module _ (γ : Geometry) where
  -- kinds 7 and 9: questions 1, 2, 4 and 6
  pub record UpkeepReady (s : Box) (now : ℕ) (answer : List ℕ) : Type 0 where
    pub box : ValidBox γ s
    pub time : now ≤ latest_time
    pub answer_size_is : length answer ≡ answer_size γ

  -- kind 8, which gets no disk
  pub record RestartReady (m : List ℕ) (now : ℕ) (answer : List ℕ) : Type 0 where
    pub memory : valid γ m ≡ true
    pub time : now ≤ latest_time
    pub answer_size_is : length answer ≡ answer_size γ

  -- what an update of block a brings: questions 4, 6 and 10
  pub record MayChange (u : Update) (a now : ℕ) (proof : List ℕ) : Type 0 where
    pub time : now ≤ latest_time
    pub proof_size_is : length proof ≡ proof_size γ
    pub limit : within_limit (updated u now (entry_at (brought_page γ proof) (place_of γ a))) ≡ true

  -- kinds 4, 5 and 6
  pub record ChangeReady (u : Update) (s : Box) (c : Command) : Type 0 where
    pub box : ValidBox γ s
    pub block : c.block < data_blocks γ (groups γ s.memory)
    pub content_size : length c.content ≡ content_length γ (Change u)
    pub may : MayChange u c.block c.now c.proof
    pub unexhausted : count s.memory (group_of γ c.block) < count_limit
    pub answer_size_is : length c.answer ≡ answer_size γ
