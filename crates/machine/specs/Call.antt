-- A call of the controller: what its references show, at entry or at exit, as a box, a command and an outcome. Assumes nothing: these are
-- definitions.
use Rattle.std.specs.Prelude.{List, ℕ, ◌/◌, ◌%◌, ◌^◌}
use Rattle.machine.specs.Command.{Box, Command, Outcome, box_of, command_of, outcome_of}
use Rattle.machine.specs.Format.{FormatOutcome, format_outcome_of}
use Rattle.machine.specs.Query.{Query, QueryOutcome, query_of, query_outcome_of}

-- what a reference to a byte slice shows
abbrev pub ByteSlice : Type 0
ByteSlice = List ℕ

abbrev pub box_at : ByteSlice → ByteSlice → Box
box_at memory disk = box_of memory disk

abbrev pub command_at : ℕ → ℕ → ℕ → ℕ → ByteSlice → ByteSlice → ByteSlice → Command
command_at kind block time value content proof answer = command_of kind block time value content proof answer

abbrev pub outcome_at : ℕ → ByteSlice → ByteSlice → ByteSlice → Outcome
outcome_at number memory disk answer = outcome_of number memory disk answer

abbrev pub format_outcome_at : ℕ → ByteSlice → ByteSlice → FormatOutcome
format_outcome_at number memory disk = format_outcome_of number memory disk

abbrev pub query_at : ByteSlice → ℕ → ByteSlice → Query
query_at blocks time answer = query_of blocks time answer

abbrev pub query_outcome_at : ℕ → ℕ → ByteSlice → ByteSlice → ByteSlice → QueryOutcome
query_outcome_at number pages memory disk answer = query_outcome_of number pages (box_at memory disk) answer

-- ---- two numbers answered in one of 64 bits: the question's number in the low half, the other in the high half

abbrev pub low_half : ℕ → ℕ
low_half n = n % 2 ^ 32

abbrev pub high_half : ℕ → ℕ
high_half n = n / 2 ^ 32
