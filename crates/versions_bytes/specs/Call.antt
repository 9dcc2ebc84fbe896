-- A call of the version store as its caller makes it, the state as bytes, after document 02, Q-3: what it answers, and what it leaves in
-- each buffer. Assumes nothing: these are definitions.
use Rattle.std.specs.Prelude.{true, false, Option, Ok, Err, List, [], ◌∷◌, ℕ, length, eqb, leb}
use Rattle.std.specs.Prelude.{Result as Answer}
use Rattle.lockpage.specs.Geometry.{Geometry}
use Rattle.machine.specs.declared.Refusal.{Refusal}
use Rattle.machine.specs.Command.{Box}
use Rattle.machine.specs.Question.{Question, Put, first_no}
use Rattle.machine.specs.Call.{ByteSlice, box_at}
use Rattle.versions_machine.specs.Versions.{Range, block_number, start, start_questions}
use Rattle.versions_machine.specs.Call.{Result, last_part, put, flush}
use Rattle.versions_state.specs.Layout.{state_size}
use Rattle.versions_state.specs.State.{state_bytes, versions_in, is_valid}

-- what a call leaves: its number, the block answered, the state's bytes and the box
pub record Called : Type 0 where
  pub number : ℕ
  pub block : ℕ
  pub state : List ℕ
  pub box : Box

abbrev pub called_of : ℕ → ℕ → List ℕ → Box → Called
called_of number block state box = record { number = number; block = block; state = state; box = box }

-- what a start leaves
pub record Started : Type 0 where
  pub number : ℕ
  pub state : List ℕ

abbrev pub started_of : ℕ → List ℕ → Started
started_of number state = record { number = number; state = state }

-- what a lookup answers
pub record Located : Type 0 where
  pub number : ℕ
  pub block : ℕ

abbrev pub located_of : ℕ → ℕ → Located
located_of number block = record { number = number; block = block }

-- the block that a lookup answers, as a number: none is FF FF FF FF, and beside a refusal's number stands 0
abbrev pub block_or_0 : Answer (Option ℕ) Refusal → ℕ
block_or_0 (Ok block) = block_number block
block_or_0 (Err _) = 0

module _ (γ : Geometry) where
  -- "a lock R, named once at its start": 1, of the buffer for the state; then 10
  abbrev pub buffer_questions : List ℕ → ℕ → List Question
  buffer_questions buffer lock = Put 1 (eqb (length buffer) (state_size γ)) ∷ start_questions lock

  unfoldable pub start_bytes : ℕ → List ℕ → ℕ → Started
  start_bytes first buffer lock =
      elim (eqb (first_no (buffer_questions buffer lock)) 0) [
        | true ↦ started_of 0 (state_bytes γ (start first lock))
        | false ↦ started_of (first_no (buffer_questions buffer lock)) buffer
      ]

  -- the office's lookup: "13, part number over 255, asked first"; then 1, of the state
  abbrev pub lookup_questions : List ℕ → ℕ → List Question
  lookup_questions state part = Put 13 (leb part last_part) ∷ Put 1 (is_valid γ state) ∷ []

  unfoldable pub lookup : List ℕ → ℕ → Located
  lookup state part =
      elim (eqb (first_no (lookup_questions state part)) 0) [
        | true ↦ located_of 0 (block_number ((versions_in state).newest part))
        | false ↦ located_of (first_no (lookup_questions state part)) 0
      ]

  -- the bytes after a call of a store: that store's, or, where the call is refused, those that were there
  unfoldable pub handed : List ℕ → Result → Called
  handed state r =
      called_of r.number r.block (elim (eqb r.number 0) [ true ↦ state_bytes γ r.versions | false ↦ state ]) r.box

  -- a call with a state that is not valid, refused by a number
  abbrev pub refused_by : ℕ → List ℕ → Box → Called
  refused_by number state s = called_of number 0 state s

  module _ (ρ : Range) where
    -- a valid state's bytes are a store; any others get 13 or 1
    unfoldable pub put_bytes : List ℕ → Box → ℕ → ℕ → List ℕ → Called
    put_bytes state s part now content =
        elim (is_valid γ state) [
          | true ↦ handed state (put γ ρ (versions_in state) s part now content)
          | false ↦ refused_by (first_no (Put 13 (leb part last_part) ∷ Put 1 false ∷ [])) state s
        ]

    unfoldable pub flush_bytes : List ℕ → Box → ℕ → Called
    flush_bytes state s now =
        elim (is_valid γ state) [
          | true ↦ handed state (flush γ ρ (versions_in state) s now)
          | false ↦ refused_by 1 state s
        ]

-- what the references of a call show, at exit
abbrev pub called_at : ℕ → ℕ → ByteSlice → ByteSlice → ByteSlice → Called
called_at number block state memory disk = called_of number block state (box_at memory disk)

abbrev pub started_at : ℕ → ByteSlice → Started
started_at number state = started_of number state
