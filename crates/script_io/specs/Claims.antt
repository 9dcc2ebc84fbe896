-- What is claimed of the turns. The claim is a type; its proof is proofs/Theorems.antt.
use Rattle.std.specs.Prelude.{◌≡◌, true, false, List, [], ◌∷◌, ◌++◌, map, ℕ, ◌≤◌, ◌<◌, length, take, Option, Some, None}
use Rattle.machine.specs.Command.{Box}
use Rattle.script_answers.specs.Answer.{most_printed}
use Rattle.script_printout.specs.declared.Reader.{Reader}
use Rattle.script_printout.specs.declared.Progress.{Progress}
use Rattle.script_printout.specs.Printout.{blank_box, script_box, printout}
use Rattle.script_printout.specs.Reader.{begun, most_number, Fed}
use Rattle.script_printout.specs.Claims.{Call, output_of, BuffersFit, input_of}
use Rattle.script_io.specs.declared.Turn.{Turn}
use Rattle.script_io.specs.Turn.{stepped, goes_on}

-- what a turn gets: how many bytes the read got, the piece after it, and the buffer
pub record Read : Type 0 where
  pub got : ℕ
  pub piece : List ℕ
  pub buffer : List ℕ

-- the progress that a call answers, if what it gets is taken
abbrev pub progress_of : Fed → Option Progress
progress_of f = elim f.taken [ true ↦ Some (record { reader = f.placed.reader; end = f.placed.end }) | false ↦ None ]

-- the turn that leaves f, of which all is written
abbrev pub turn_of : ℕ → Fed → Turn
turn_of got f = record { got = Some got; fed = progress_of f; written = true }

-- all that is written in turns, each with the reader and the box that the one before left, as long as another follows
unfoldable pub turns_written : Reader → Box → List Read → List ℕ
turns_written r s [] = []
turns_written r s (x ∷ reads) =
    let f = stepped r s (Some x.got) x.piece x.buffer in
    output_of f ++ elim (goes_on (turn_of x.got f)) [ true ↦ turns_written f.placed.reader f.placed.box reads | false ↦ [] ]

-- the bytes got, as a call of the library
abbrev pub call_of : Read → Call
call_of x = record { piece = take x.got x.piece; buffer = x.buffer }

abbrev pub GetBytes : List Read → Type 0
GetBytes [] = Unit
GetBytes (x ∷ reads) = (0 < x.got) × GetBytes reads

-- however the reads cut a script, the turns have its printout written: those that get bytes, and then the end. The script has fewer bytes
-- than lines are counted
abbrev pub TurnsPrinted : Type 0
TurnsPrinted = (reads : List Read) (last : Read) → GetBytes reads → last.got ≡ 0
    → BuffersFit (map call_of reads) → most_printed ≤ length last.buffer → length (input_of (map call_of reads)) < most_number
    → turns_written begun (script_box blank_box) (reads ++ (last ∷ [])) ≡ printout (input_of (map call_of reads))
