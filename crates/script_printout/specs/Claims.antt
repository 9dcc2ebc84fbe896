-- What is claimed of the reader. The claim is a type; its proof is proofs/Theorems.antt.
use Rattle.std.specs.Prelude.{◌≡◌, ℕ, ◌*◌, ◌≤◌, ◌<◌, length}
use mathlib.Core.List.{List, [], ◌∷◌, ◌++◌, map, flatten}
use Rattle.octets.specs.Part.{part}
use Rattle.machine.specs.Command.{Box}
use Rattle.script_answers.specs.Answer.{most_printed}
use Rattle.script_printout.specs.declared.Reader.{Reader}
use Rattle.script_printout.specs.Printout.{blank_box, script_box, printout}
use Rattle.script_printout.specs.Reader.{begun, most_number, Fed, fed, finished}

-- a call: the next piece of the input, and the buffer that it gets
pub record Call : Type 0 where
  pub piece : List ℕ
  pub buffer : List ℕ

-- what the caller writes out of a buffer: its bytes before the place that the call answers
abbrev pub output_of : Fed → List ℕ
output_of f = part f.placed.out 0 f.placed.end

-- all that is written for some calls, each with the reader and the box that the one before left, and for the end, with a buffer of its own
unfoldable pub all_written : Reader → Box → List Call → List ℕ → List ℕ
all_written r s [] last = output_of (finished r s last)
all_written r s (c ∷ calls) last =
    let f = fed r s c.piece c.buffer in
    output_of f ++ all_written f.placed.reader f.placed.box calls last

-- each buffer has room for a line at each byte
abbrev pub BuffersFit : List Call → Type 0
BuffersFit [] = Unit
BuffersFit (c ∷ calls) = (length c.piece * most_printed ≤ length c.buffer) × BuffersFit calls

-- the whole input
abbrev pub input_of : List Call → List ℕ
input_of calls = flatten (map (λ (c : Call). c.piece) calls)

-- however the input is cut, the calls have the bytes of its printout written. The input has fewer bytes than lines are counted: 2 ^ 64 - 1
abbrev pub PiecesPrinted : Type 0
PiecesPrinted = (calls : List Call) (last : List ℕ) → BuffersFit calls → most_printed ≤ length last → length (input_of calls) < most_number
    → all_written begun (script_box blank_box) calls last ≡ printout (input_of calls)
