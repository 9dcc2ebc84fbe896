-- What a line of a script does and prints, after document 01, "The script and its printout", over the machine's step. Assumes nothing:
-- these are definitions.
use Rattle.std.specs.Prelude.{true, false, ◌&&◌, List, [], ◌∷◌, ◌++◌, ℕ, ◌%◌, eqb, pos}
use Rattle.octets.specs.Part.{repeated}
use Rattle.octets.specs.Number.{number_at}
use Rattle.octets.specs.Signed.{signed}
use Rattle.lockpage.specs.Geometry.{present}
use Rattle.lockpage.specs.Size.{entry_size}
use Rattle.lockpage.specs.State.{time_left_size}
use Rattle.memory.specs.Memory.{last_time}
use Rattle.machine.specs.declared.Kind.{Kind}
use Rattle.machine.specs.Command.{Box, Command, Outcome, box_of, command_of, kind_numbered, answer_size}
use Rattle.machine.specs.Question.{content_length, proof_length}
use Rattle.machine.specs.Effect.{state_place}
use Rattle.machine.specs.Step.{step}
use Rattle.decimal.specs.Decimal.{decimal, signed_decimal}
use Rattle.script_lines.specs.declared.Values.{Values}
use Rattle.script_lines.specs.Syntax.{space, newline}
use Rattle.script_answers.specs.declared.Shown.{Shown}
use Rattle.script_answers.specs.declared.ScriptBox.{ScriptBox}

-- a script's box as the machine's
abbrev pub box_in : ScriptBox → Box
box_in b = box_of b.memory b.disk

-- ---- the command

-- every command gets an answer buffer of zeros
unfoldable pub buffer : List ℕ
buffer = repeated (answer_size present) 0

abbrev pub line_kind : Values → Kind
line_kind v = kind_numbered v.kind v.value

-- "Write data are 512 bytes, new salt 32, of value mod 256": as many as the kind brings
abbrev pub content_of : Values → List ℕ
content_of v = repeated (content_length present (line_kind v)) (v.value % 256)

-- the command of a line, with the page and tag that it brings
abbrev pub command_for : Values → List ℕ → Command
command_for v proof = command_of v.kind v.block v.time v.value (content_of v) proof buffer

-- "it gets page 0 by kind 3 at the last time"
unfoldable pub page_got : Box → Outcome
page_got s = step present s (command_of 3 0 (last_time present s.memory) 0 [] [] buffer)

-- "Before kinds 4 to 6", which are those that bring a proof
unfoldable pub ran : Box → Values → Outcome
ran s v =
    elim (eqb (proof_length present (line_kind v)) 0) [
      | true ↦ step present s (command_for v [])
      | false ↦ step present (page_got s).box (command_for v (page_got s).answer)
    ]

-- ---- the line printed

-- "the number answered, and for an accepted kind 2 state and time left .., otherwise 0 0". An entry's answer has its 8 bytes, the time
-- left and the state
unfoldable pub shown : ℕ → Outcome → Shown
shown kind o =
    elim (eqb kind 2 && eqb o.number 0) [
      | true ↦ record {
        number = o.number;
        state = number_at o.answer state_place 1;
        left = signed (number_at o.answer entry_size time_left_size);
      }
      | false ↦ record { number = o.number; state = 0; left = pos 0 }
    ]

-- a number and a space
abbrev pub spaced : ℕ → List ℕ
spaced n = decimal n ++ (space ∷ [])

-- the most bytes of it, where the number is one of 64 bits: 20 digits and the space
abbrev pub most_spaced : ℕ
most_spaced = 21

-- "It prints kind, block and time as given, the number answered, and .. state and time left (with a minus sign if negative)"
unfoldable pub line_shown : Values → Shown → List ℕ
line_shown v s =
    spaced v.kind ++ (spaced v.block ++ (spaced v.time ++ (spaced s.number ++ (spaced s.state ++ (signed_decimal s.left ++ (newline ∷ []))))))

-- the most bytes of a printed line: five numbers of at most 20 digits and a space each, one with a sign, the line end; rounded up
abbrev pub most_printed : ℕ
most_printed = 128

-- ---- both

-- what a line leaves: the box, and what is printed of its answer
pub record Ran : Type 0 where
  pub box : Box
  pub shown : Shown

abbrev pub ran_of : ScriptBox → Shown → Ran
ran_of b s = record { box = box_in b; shown = s }

abbrev pub ran_with : ℕ → Outcome → Ran
ran_with kind o = record { box = o.box; shown = shown kind o }

abbrev pub ran_line : Box → Values → Ran
ran_line s v = ran_with v.kind (ran s v)
