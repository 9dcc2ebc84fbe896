-- What a reader wants to know of a query, after document 02, Q-1, beside that it shows no protected block as free (specs/NotFree.antt).
-- Each claim is a type; its proof has the claim's name in proofs/QueryTheorems.antt. The words quoted are Q-1's, where no other paper is named.
use Rattle.std.specs.Prelude.{◌≡◌, false, ℕ, ◌+◌, ◌*◌, ◌≤◌, ◌<◌, eqb, length}
use mathlib.Core.List.{List, [], ◌∷◌, map, any}
use Rattle.octets.specs.Part.{AreBytes, part}
use Rattle.lockpage.specs.Geometry.{Geometry}
use Rattle.lockpage.specs.Size.{entry_size}
use Rattle.lockpage.specs.State.{time_left_size}
use Rattle.lockpage.specs.Update.{latest_time}
use Rattle.addressing.specs.Map.{data_blocks, group_of}
use Rattle.memory.specs.Memory.{last_time, groups}
use Rattle.machine.specs.Command.{Box, Command, command_of, answer_size}
use Rattle.machine.specs.Effect.{state_place}
use Rattle.machine.specs.Step.{step, timed, Accepted}
use Rattle.machine.specs.Query.{Query, number_size, most_numbers, number_count, block_number, numbers, shown_size, query_questions, query_step}
use Rattle.machine.specs.Query.{AcceptedQuery}
use Rattle.machine.specs.Claims.{Passes, AnswersFirstNo, RefusesBy, Unaltered, ByteBox, Stored, SameLengths, ValidBox}

-- document 02's sizes: "1 to 64 block numbers (4 bytes each ..) .. an answer buffer of 9 bytes for each"
pub record PapersQuerySizes : Type 0 where
  pub number : number_size ≡ 4
  pub most : most_numbers ≡ 64
  pub shown : shown_size ≡ 9

-- the list is n block numbers: "1 to 64 block numbers (4 bytes each ..)"
pub record IsList (blocks : List ℕ) (n : ℕ) : Type 0 where
  pub some : 1 ≤ n
  pub few : n ≤ most_numbers
  pub whole : length blocks ≡ number_size * n

-- no number stands in the list twice
abbrev pub NoneTwice : List ℕ → Type 0
NoneTwice [] = Unit
NoneTwice (g ∷ gs) = (any gs (eqb g) ≡ false) × NoneTwice gs

-- number i of the list asked for by kind 2 at that time; the value and the answer buffer are any
abbrev pub entry_command : Query → ℕ → ℕ → List ℕ → Command
entry_command q i value answer = command_of 2 (block_number q.blocks i) q.now value [] [] answer

-- γ is the box's geometry; the numbers quoted are those at base
module _ (γ : Geometry) where
  -- ---- the questions

  -- demand 2: a query passes if and only if each question put to it has yes
  unfoldable pub QueryPassesIfAllYes : Type 0
  QueryPassesIfAllYes = (s : Box) (q : Query) → Passes (query_step γ s q).number (query_questions γ s q)

  -- document 01: "A no ends the command with that number"
  unfoldable pub QueryNumberIsFirstNo : Type 0
  QueryNumberIsFirstNo = (s : Box) (q : Query) → AnswersFirstNo (query_step γ s q).number (query_questions γ s q)

  -- what a query gets that questions 1, 2 and 4 let pass
  pub record NumberAnswered (s : Box) (q : Query) : Type 0 where
    -- "12, the list isn't 1 to 64 numbers; asked after question 4"
    pub no_list : ((n : ℕ) → IsList q.blocks n → ⊥) → (query_step γ s q).number ≡ 12
    -- "One number out of range refuses the list by 5"
    pub out_of_range : (n : ℕ) → IsList q.blocks n → (i : ℕ) → i < n → data_blocks γ (groups γ s.memory) ≤ block_number q.blocks i
        → (query_step γ s q).number ≡ 5
    -- "an answer buffer of another length by 6"
    pub other_length : (n : ℕ) → IsList q.blocks n → ((i : ℕ) → i < n → block_number q.blocks i < data_blocks γ (groups γ s.memory))
        → (length q.answer ≡ shown_size * n → ⊥) → (query_step γ s q).number ≡ 6
    -- "questions 3 and 7 to 11 aren't put"
    pub passes : (n : ℕ) → IsList q.blocks n → ((i : ℕ) → i < n → block_number q.blocks i < data_blocks γ (groups γ s.memory))
        → length q.answer ≡ shown_size * n → AcceptedQuery γ s q

  unfoldable pub QueryNumbers : Type 0
  QueryNumbers = (s : Box) (q : Query) → ValidBox γ s → last_time γ s.memory ≤ q.now → q.now ≤ latest_time → NumberAnswered s q

  -- a box that is not valid refuses every query, by 1 or 2
  unfoldable pub InvalidRefusesQuery : Type 0
  InvalidRefusesQuery = (s : Box) (q : Query) → (ValidBox γ s → ⊥) → RefusesBy 2 (query_step γ s q).number

  -- ---- what is left

  -- demand 1: "a refusal alters no byte of memory, disk or answer"; document 01: "every other number answered is 0"
  unfoldable pub QueryRefusalAltersNothing : Type 0
  QueryRefusalAltersNothing = (s : Box) (q : Query) → (AcceptedQuery γ s q → ⊥)
      → Unaltered s (query_step γ s q).box q.answer (query_step γ s q).answer × ((query_step γ s q).pages ≡ 0)

  -- "It sets the last time as other commands do", and alters nothing else of the box
  pub record SetsTime (s t : Box) (now : ℕ) : Type 0 where
    pub only : t ≡ timed γ s now
    pub time : last_time γ t.memory ≡ now
    pub disk : t.disk ≡ s.disk
    pub valid : ValidBox γ t

  unfoldable pub QuerySetsTime : Type 0
  QuerySetsTime = (s : Box) (q : Query) → AcceptedQuery γ s q → SetsTime s (query_step γ s q).box q.now

  -- bytes stay bytes, and a buffer keeps its length
  unfoldable pub QueryKeepsBytes : Type 0
  QueryKeepsBytes = (s : Box) (q : Query) → ByteBox s → AreBytes q.answer → Stored (query_step γ s q).box (query_step γ s q).answer

  unfoldable pub QueryKeepsLengths : Type 0
  QueryKeepsLengths = (s : Box) (q : Query) → SameLengths s (query_step γ s q).box q.answer (query_step γ s q).answer

  -- ---- the pages

  -- "The number of pages read .. is the number of different groups named": it is the length of a list that has these groups, each once
  pub record PagesCounted (s : Box) (q : Query) : Type 0 where
    pub different : List ℕ
    pub read : (query_step γ s q).pages ≡ length different
    pub named : (g : ℕ) → any different (eqb g) ≡ any (map (group_of γ) (numbers q.blocks)) (eqb g)
    pub once : NoneTwice different
    -- so they are 1 at least, and no more than the numbers or the box's groups
    pub some : 1 ≤ (query_step γ s q).pages
    pub few : (query_step γ s q).pages ≤ number_count q.blocks
    pub most : (query_step γ s q).pages ≤ groups γ s.memory

  unfoldable pub QueryCountsPages : Type 0
  QueryCountsPages = (s : Box) (q : Query) → AcceptedQuery γ s q → PagesCounted s q

  -- ---- what is shown

  -- "gives per number, in the list's order, the state byte and the 8-byte time left": those that an accepted command c answers behind the
  -- entry
  pub record ShowsAs (s : Box) (q : Query) (i : ℕ) (c : Command) : Type 0 where
    pub accepted : Accepted γ s c
    pub state_byte : part (query_step γ s q).answer (shown_size * i) 1 ≡ part (step γ s c).answer state_place 1
    pub time_left_is : part (query_step γ s q).answer (shown_size * i + 1) time_left_size ≡ part (step γ s c).answer entry_size time_left_size

  unfoldable pub QueryShowsEntries : Type 0
  QueryShowsEntries = (s : Box) (q : Query) → AcceptedQuery γ s q → (i : ℕ) → i < number_count q.blocks
      → (value : ℕ) (answer : List ℕ) → length answer ≡ answer_size γ → ShowsAs s q i (entry_command q i value answer)
