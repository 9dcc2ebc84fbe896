-- A turn of the script program: what is done with what a read answered, and whether another turn follows. Assumes nothing: these are
-- definitions.
use Rattle.std.specs.Prelude.{Bool, true, false, ◌&&◌, not, List, [], ℕ, zero, suc, take, Option, Some, None}
use Rattle.machine.specs.Command.{Box}
use Rattle.script_printout.specs.declared.Stage.TheVariants.{Header, Body, Ended}
use Rattle.script_printout.specs.declared.Reader.{Reader}
use Rattle.script_printout.specs.Reader.{Fed, fed, finished, placed, printing}
use Rattle.script_io.specs.declared.Turn.{Turn}

-- the step on what a read answered. If none, it failed, and nothing is run. 0 is the end of the script: "the last line may lack its newline".
-- Else so many bytes stand at the start of the piece, and are read
unfoldable pub stepped : Reader → Box → Option ℕ → List ℕ → List ℕ → Fed
stepped r s None piece out = record { taken = false; placed = placed out 0 (printing r s []) }
stepped r s (Some zero) piece out = finished r s out
stepped r s (Some (suc k)) piece out = fed r s (take (suc k) piece) out

-- "A line not of this form .. ends the run"
unfoldable pub has_ended : Reader → Bool
has_ended r = elim r.stage [ Header k ↦ false | Body line ↦ false | Ended ↦ true ]

-- a read answered that the script is at its end
unfoldable pub is_end : Option ℕ → Bool
is_end None = false
is_end (Some zero) = true
is_end (Some (suc k)) = false

-- another turn follows: what was read is taken, what it prints is written, it was not the end, and the run has not ended by a bad line
unfoldable pub goes_on : Turn → Bool
goes_on t = elim t.fed [ Some p ↦ t.written && not (is_end t.got) && not (has_ended p.reader) | None ↦ false ]
