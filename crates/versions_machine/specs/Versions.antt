-- What the version store keeps from call to call, and its start, after document 02, Q-3, whose keeper it is: "A second library above the
-- controller, altering it only by its commands". Assumes nothing: these are definitions.
use Rattle.std.specs.Prelude.{Bool, true, false, ◌&&◌, List, [], ◌∷◌, ◌++◌, ℕ, eqb, leb, Option, Some, None}
use Rattle.lockpage.specs.Update.{longest_lock}
use Rattle.machine.specs.Question.{Question, Put}

-- the blocks that the store may use: so many from the first on
pub record Range : Type 0 where
  pub first : ℕ
  pub number : ℕ

-- a block, or none, as one number: none is FF FF FF FF, the highest of four bytes
abbrev pub no_block : ℕ
no_block = 4294967295

abbrev pub block_number : Option ℕ → ℕ
block_number None = no_block
block_number (Some block) = block

abbrev pub block_named : ℕ → Option ℕ
block_named n = elim (eqb n no_block) [ true ↦ None | false ↦ Some n ]

-- "a record: part number, block"
pub record Record : Type 0 where
  pub part : ℕ
  pub block : ℕ

abbrev pub record_of : ℕ → ℕ → Record
record_of part block = record { part = part; block = block }

pub record Versions : Type 0 where
  -- "a lock R, named once at its start"
  pub lock : ℕ
  -- the block of each part's newest version
  pub newest : ℕ → Option ℕ
  -- the records that no log block has yet, in the order of their puts
  pub records : List Record
  -- "the reserved one": where the next log block goes
  pub reserve : ℕ
  -- "the one last taken"
  pub taken : ℕ

abbrev pub versions_of : ℕ → (ℕ → Option ℕ) → List Record → ℕ → ℕ → Versions
versions_of lock newest records reserve taken =
    record { lock = lock; newest = newest; records = records; reserve = reserve; taken = taken }

-- ---- the start

-- not "0 or above question 10's lock limit"
abbrev pub is_lock : ℕ → Bool
is_lock lock = leb 1 lock && leb lock longest_lock

-- "(0 or above question 10's lock limit gets 10)"
unfoldable pub start_questions : ℕ → List Question
start_questions lock = Put 10 (is_lock lock) ∷ []

-- "after the one last taken (block 0 at first)"; "the first in block 0, the reserve at the start": block 0 is the first that it may use
unfoldable pub start : ℕ → ℕ → Versions
start first lock = versions_of lock (λ part. None) [] first first

-- ---- what a put and a log block make of it

-- newest with a block for a part
unfoldable pub replaced_by : (ℕ → Option ℕ) → ℕ → ℕ → ℕ → Option ℕ
replaced_by newest part block k = elim (eqb k part) [ true ↦ Some block | false ↦ newest k ]

-- "Each put answers its block and adds a record"; the block is now the one last taken
unfoldable pub entered : Versions → ℕ → ℕ → Versions
entered ν part block =
    versions_of ν.lock (replaced_by ν.newest part block) (ν.records ++ (record_of part block ∷ [])) ν.reserve block

-- "an 8-byte pointer to the next block, taken as reserve then"
unfoldable pub logged : Versions → ℕ → Versions
logged ν pointer = versions_of ν.lock ν.newest [] pointer pointer
