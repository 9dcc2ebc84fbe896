-- One command, after document 01, "Commands" and "Questions". Assumes nothing: these are definitions.
use Rattle.std.specs.Prelude.{◌≡◌, true, false, List, ◌++◌, ℕ, ◌-◌, length, eqb}
use Rattle.octets.specs.Part.{repeated}
use Rattle.lockpage.specs.Geometry.{Geometry}
use Rattle.memory.specs.Memory.{with_last_time}
use Rattle.machine.specs.Command.{Box, Command, Outcome, box_of, kind_of, answer_size}
use Rattle.machine.specs.Question.{refusal}
use Rattle.machine.specs.Effect.{Effect, stored, effect}

-- "A no ends the command with that number; .. no buffer changes."
unfoldable pub refused : ℕ → Box → Command → Outcome
refused n s c = record { number = n; box = s; answer = c.answer }

-- γ is the box's geometry
module _ (γ : Geometry) where
  -- "An accepted command fills the answer with what is named and then zeros"
  unfoldable pub padded : List ℕ → List ℕ
  padded named = named ++ repeated (answer_size γ - length named) 0

  -- "and sets the last time to now"
  unfoldable pub timed : Box → ℕ → Box
  timed s now = box_of (with_last_time γ s.memory now) s.disk

  -- the outcome of an effect on a disk
  unfoldable pub done : List ℕ → Effect → Outcome
  done disk e = record { number = 0; box = box_of e.memory (stored γ disk e.stores); answer = padded e.named }

  -- an accepted command: its effect is that on the box whose last time is now
  abbrev pub accepted : (Box → Effect) → Box → ℕ → Outcome
  accepted effect s now = done s.disk (effect (timed s now))

  unfoldable pub step : Box → Command → Outcome
  step s c =
      elim (eqb (refusal γ s c) 0) [
        | true ↦ accepted (λ t. effect γ (kind_of c) t c) s c.now
        | false ↦ refused (refusal γ s c) s c
      ]

  -- "Accepted is 0."
  abbrev pub Accepted : Box → Command → Type 0
  Accepted s c = (step s c).number ≡ 0
