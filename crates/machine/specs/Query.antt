-- The states of many blocks in one go, after document 02, Q-1: a query. Assumes nothing: these are definitions.
use Rattle.std.specs.Prelude.{◌≡◌, true, false, ◌&&◌, ℕ, zero, suc, ◌+◌, ◌*◌, ◌/◌, length, eqb, ltb, leb}
use mathlib.Core.List.{List, [], ◌∷◌, map, flat_map, any, all}
use Rattle.octets.specs.Number.{number_at}
use Rattle.lockpage.specs.Geometry.{Geometry}
use Rattle.lockpage.specs.declared.Entry.{Entry as PageEntry}
use Rattle.lockpage.specs.State.{state, state_number, time_left_size, time_left_bytes}
use Rattle.addressing.specs.Map.{data_blocks, group_of}
use Rattle.memory.specs.Memory.{groups}
use Rattle.machine.specs.Command.{Box}
use Rattle.machine.specs.Tag.{current_entry}
use Rattle.machine.specs.Question.{Question, Put, first_no, question1, question2, question4}
use Rattle.machine.specs.Step.{timed}

-- "A new entry takes 1 to 64 block numbers (4 bytes each, repeats allowed), now and an answer buffer of 9 bytes for each"; the numbers
-- are brought as bytes
pub record Query : Type 0 where
  pub blocks : List ℕ
  pub now : ℕ
  pub answer : List ℕ

-- what it leaves: its number, "the number of pages read", memory and disk, and the answer buffer
pub record QueryOutcome : Type 0 where
  pub number : ℕ
  pub pages : ℕ
  pub box : Box
  pub answer : List ℕ

-- each of the two from its parts, in the order of the call's parameters
abbrev pub query_of : List ℕ → ℕ → List ℕ → Query
query_of blocks now answer = record { blocks = blocks; now = now; answer = answer }

abbrev pub query_outcome_of : ℕ → ℕ → Box → List ℕ → QueryOutcome
query_outcome_of number pages box answer = record { number = number; pages = pages; box = box; answer = answer }

-- ---- the list

-- "4 bytes each"
abbrev pub number_size : ℕ
number_size = 4

-- "1 to 64 block numbers", in every box
abbrev pub most_numbers : ℕ
most_numbers = 64

-- how many numbers there are in the bytes, and number i of them
unfoldable pub number_count : List ℕ → ℕ
number_count blocks = length blocks / number_size

unfoldable pub block_number : List ℕ → ℕ → ℕ
block_number blocks i = number_at blocks (number_size * i) number_size

-- f i, f (i + 1) and so on: n of them
unfoldable pub listed : {A : Type 0} → (ℕ → A) → ℕ → ℕ → List A
listed f i zero = []
listed f i (suc n) = f i ∷ listed f (suc i) n

abbrev pub numbers : List ℕ → List ℕ
numbers blocks = listed (block_number blocks) 0 (number_count blocks)

-- a list with each of its numbers once
unfoldable pub distinct : List ℕ → List ℕ
distinct [] = []
distinct (g ∷ gs) = elim (any gs (eqb g)) [ true ↦ distinct gs | false ↦ g ∷ distinct gs ]

-- ---- what is shown

-- "9 bytes for each"
abbrev pub shown_size : ℕ
shown_size = 1 + time_left_size

-- "the state byte and the 8-byte time left"
unfoldable pub shown_state : ℕ → PageEntry → List ℕ
shown_state now e = state_number (state now e) ∷ time_left_bytes now e

-- ---- questions that no geometry makes a difference to

-- "12, the list isn't 1 to 64 numbers"
abbrev pub question12 : List ℕ → Question
question12 blocks =
    Put 12 (eqb (length blocks) (number_size * number_count blocks) && (leb 1 (number_count blocks) && leb (number_count blocks) most_numbers))

-- "an answer buffer of another length by 6"
abbrev pub list_question6 : List ℕ → List ℕ → Question
list_question6 blocks answer = Put 6 (eqb (length answer) (shown_size * number_count blocks))

-- γ is the box's geometry; the numbers quoted are those at base
module _ (γ : Geometry) where
  -- "per number, in the list's order", what kind 2 has for that block at that time
  unfoldable pub shown_states : Box → ℕ → List ℕ → List ℕ
  shown_states s now bs = flat_map (λ a. shown_state now (current_entry γ s a)) bs

  -- "Each group's current page is read once."; "the number of different groups named"
  unfoldable pub pages_read : List ℕ → ℕ
  pages_read bs = length (distinct (map (group_of γ) bs))

  -- ---- questions

  -- "One number out of range refuses the list by 5"
  abbrev pub list_question5 : ℕ → List ℕ → Question
  list_question5 groups bs = Put 5 (all bs (λ a. ltb a (data_blocks γ groups)))

  -- "questions 3 and 7 to 11 aren't put"; 12 is "asked after question 4"
  abbrev pub query_questions : Box → Query → List Question
  query_questions s q =
      question1 γ s.memory
      ∷ question2 γ s.memory s.disk
      ∷ question4 γ s.memory q.now
      ∷ question12 q.blocks
      ∷ list_question5 (groups γ s.memory) (numbers q.blocks)
      ∷ list_question6 q.blocks q.answer
      ∷ []

  unfoldable pub query_refusal : Box → Query → ℕ
  query_refusal s q = first_no (query_questions s q)

  -- ---- the outcome

  -- "It sets the last time as other commands do", and changes nothing else of the box
  unfoldable pub query_accepted : Box → Query → QueryOutcome
  query_accepted s q =
      let t = timed γ s q.now in
      query_outcome_of 0 (pages_read (numbers q.blocks)) t (shown_states t q.now (numbers q.blocks))

  -- "every other number answered is 0 and no buffer changes"
  unfoldable pub query_step : Box → Query → QueryOutcome
  query_step s q =
      elim (eqb (query_refusal s q) 0) [
        | true ↦ query_accepted s q
        | false ↦ query_outcome_of (query_refusal s q) 0 s q.answer
      ]

  abbrev pub AcceptedQuery : Box → Query → Type 0
  AcceptedQuery s q = (query_step s q).number ≡ 0
