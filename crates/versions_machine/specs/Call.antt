-- A put and a store on demand, after document 02, Q-3: what they ask, and what they leave. Assumes nothing: these are definitions.
use Rattle.std.specs.Prelude.{true, false, List, [], ◌∷◌, ℕ, length, eqb, leb}
use Rattle.lockpage.specs.Geometry.{Geometry}
use Rattle.machine.specs.Command.{Box}
use Rattle.machine.specs.Question.{Question, Put, first_no, question1, question2, question4}
use Rattle.versions_machine.specs.Versions.{Range, Versions}
use Rattle.versions_machine.specs.Log.{is_sound}
use Rattle.versions_machine.specs.Allocation.{next_for, two_available}
use Rattle.versions_machine.specs.Plan.{Plan, plan_of, carried_out, log_plan, put_plan}

-- what a call leaves: its number, the block answered, the store's state and the box
pub record Result : Type 0 where
  pub number : ℕ
  pub block : ℕ
  pub versions : Versions
  pub box : Box

abbrev pub result_of : ℕ → ℕ → Versions → Box → Result
result_of number block versions box = record { number = number; block = block; versions = versions; box = box }

-- "a part number, 0 to 255"
abbrev pub last_part : ℕ
last_part = 255

module _ (γ : Geometry) where
  -- "A put whose commands wouldn't all be accepted gets the first such number and alters nothing; a store on demand likewise": its own
  -- questions come first, then its commands
  unfoldable pub attempted : List Question → ℕ → Plan → Versions → Box → Result
  attempted qs block plan ν s =
      elim (eqb (first_no qs) 0) [
        | true ↦
            elim (eqb (carried_out γ s plan.orders).number 0) [
              | true ↦ result_of 0 block plan.after (carried_out γ s plan.orders).box
              | false ↦ result_of (carried_out γ s plan.orders).number 0 ν s
            ]
        | false ↦ result_of (first_no qs) 0 ν s
      ]

module _ (γ : Geometry) (ρ : Range) where
  -- "14, fewer than two blocks free besides the reserved one, asked after 13 and questions 1, 2 and 4"
  abbrev pub box_questions : Versions → Box → ℕ → List Question
  box_questions ν s now =
      question1 γ s.memory
      ∷ question2 γ s.memory s.disk
      ∷ question4 γ s.memory now
      ∷ Put 14 (two_available γ ρ s now ν.reserve)
      ∷ []

  -- "13, part number over 255, asked first"; the state is sound, by 1
  unfoldable pub put_questions : Versions → Box → ℕ → ℕ → List Question
  put_questions ν s part now = Put 13 (leb part last_part) ∷ Put 1 (is_sound γ ν) ∷ box_questions ν s now

  unfoldable pub put : Versions → Box → ℕ → ℕ → List ℕ → Result
  put ν s part now content =
      attempted γ (put_questions ν s part now) (next_for γ ρ s now ν) (put_plan γ ρ ν s part now content) ν s

  -- "on demand (without records it only answers 0, before any question)": but for the state's own soundness
  unfoldable pub flush_questions : Versions → Box → ℕ → List Question
  flush_questions ν s now = Put 1 (is_sound γ ν) ∷ elim (eqb (length ν.records) 0) [ true ↦ [] | false ↦ box_questions ν s now ]

  unfoldable pub flush_plan : Versions → Box → ℕ → Plan
  flush_plan ν s now = elim (eqb (length ν.records) 0) [ true ↦ plan_of [] ν | false ↦ log_plan γ ρ ν s now ]

  unfoldable pub flush : Versions → Box → ℕ → Result
  flush ν s now = attempted γ (flush_questions ν s now) 0 (flush_plan ν s now) ν s
