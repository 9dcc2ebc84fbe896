-- Recovery, after document 02, Q-6: "After an intrusion the office names a time X and wants its parts back." Assumes nothing: these are
-- definitions.
use Rattle.std.specs.Prelude.{◌≡◌, Bool, true, false, ◌&&◌, ℕ, ◌*◌, length, eqb, leb, Option, None}
use mathlib.Core.List.{List, [], ◌∷◌, flat_map}
use Rattle.lockpage.specs.Geometry.{Geometry}
use Rattle.machine.specs.Command.{Box}
use Rattle.machine.specs.Question.{Question, Put, first_no, question1, question2, question4}
use Rattle.machine.specs.Call.{ByteSlice}
use Rattle.versions_machine.specs.Versions.{Range, Record}
use Rattle.versions_machine.specs.Log.{records_read}
use Rattle.versions_machine.specs.Allocation.{those}
use Rattle.versions_machine.specs.Call.{last_part}
use Rattle.versions_machine.specs.History.{told}
use Rattle.versions_state.specs.Layout.{field_size, parts}
use Rattle.versions_state.specs.State.{newest_bytes}
use Rattle.recovery_machine.specs.Walk.{is_kept, content_of, walk}

-- what it leaves: its number, and the result buffer. "only the result is altered"
pub record Recovery : Type 0 where
  pub number : ℕ
  pub result : List ℕ

abbrev pub recovery_of : ℕ → List ℕ → Recovery
recovery_of number result = record { number = number; result = result }

-- what the result's reference shows, at exit
abbrev pub recovery_at : ℕ → ByteSlice → Recovery
recovery_at number result = recovery_of number result

-- "256 block numbers of 4 bytes", as the version store's state has them
abbrev pub result_size : ℕ
result_size = field_size * parts

module _ (γ : Geometry) where
  -- "Questions 1, 2, 4 and 6 (a result of 1,024 bytes) are put"
  unfoldable pub recover_questions : Box → ℕ → List ℕ → List Question
  recover_questions s now result =
      question1 γ s.memory
      ∷ question2 γ s.memory s.disk
      ∷ question4 γ s.memory now
      ∷ Put 6 (eqb (length result) result_size)
      ∷ []

  module _ (ρ : Range) where
    -- a record counts "whose block is in range, not free and written by X"; the parts are "0 to 255"
    unfoldable pub counts : Box → ℕ → ℕ → Record → Bool
    counts s point now x = leb x.part last_part && is_kept γ ρ s point now x.block

    -- the records of the blocks walked, in order
    unfoldable pub walked_records : Box → ℕ → ℕ → List Record
    walked_records s point now = flat_map (λ a. records_read γ (content_of γ s a)) (walk γ ρ s point now)

    -- "For each part the last record in that walk counts"
    unfoldable pub recovered : Box → ℕ → ℕ → ℕ → Option ℕ
    recovered s point now = told (λ part. None) (those (counts s point now) (walked_records s point now))

    -- "The result is 256 block numbers of 4 bytes, FF FF FF FF for none."
    unfoldable pub recover : Box → ℕ → ℕ → List ℕ → Recovery
    recover s point now result =
        elim (eqb (first_no (recover_questions s now result)) 0) [
          | true ↦ recovery_of 0 (newest_bytes (recovered s point now) 0 parts)
          | false ↦ recovery_of (first_no (recover_questions s now result)) result
        ]

    -- "Accepted is 0."
    abbrev pub AcceptedRecovery : Box → ℕ → ℕ → List ℕ → Type 0
    AcceptedRecovery s point now result = (recover s point now result).number ≡ 0
