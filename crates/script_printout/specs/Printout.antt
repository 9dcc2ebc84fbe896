-- The whole printout as a function of the whole input, after document 01, "The script and its printout". Assumes nothing: these are
-- definitions.
use Rattle.std.specs.Prelude.{true, false, List, [], ◌∷◌, ◌++◌, ℕ, suc, Some, None}
use Rattle.octets.specs.Part.{repeated, equal}
use Rattle.lockpage.specs.Geometry.{present}
use Rattle.addressing.specs.Map.{disk_size}
use Rattle.memory.specs.Layout.{memory_size, salt_size}
use Rattle.machine.specs.Command.{Box, box_of}
use Rattle.machine.specs.Format.{format}
use Rattle.decimal.specs.Decimal.{decimal}
use Rattle.script_lines.specs.Syntax.{newline, lines, parsed}
use Rattle.script_answers.specs.Answer.{ran_line, line_shown}

-- ---- fixed texts, in ASCII

-- `kind block now value`, the script's first line
unfoldable pub header : List ℕ
header =
    107 ∷ 105 ∷ 110 ∷ 100 ∷ 32 ∷ 98 ∷ 108 ∷ 111 ∷ 99 ∷ 107 ∷ 32 ∷ 110 ∷ 111 ∷ 119 ∷ 32 ∷ 118 ∷ 97 ∷ 108 ∷ 117 ∷ 101 ∷ []

-- `kind block now answer state left`, the printout's, and its newline
unfoldable pub heading : List ℕ
heading =
    107 ∷ 105 ∷ 110 ∷ 100 ∷ 32 ∷ 98 ∷ 108 ∷ 111 ∷ 99 ∷ 107 ∷ 32 ∷ 110 ∷ 111 ∷ 119 ∷ 32
    ∷ 97 ∷ 110 ∷ 115 ∷ 119 ∷ 101 ∷ 114 ∷ 32 ∷ 115 ∷ 116 ∷ 97 ∷ 116 ∷ 101 ∷ 32 ∷ 108 ∷ 101 ∷ 102 ∷ 116 ∷ newline ∷ []

-- `bad line `
unfoldable pub bad : List ℕ
bad = 98 ∷ 97 ∷ 100 ∷ 32 ∷ 108 ∷ 105 ∷ 110 ∷ 101 ∷ 32 ∷ []

-- "prints `bad line N` (the header is 1)"
unfoldable pub bad_line : ℕ → List ℕ
bad_line n = bad ++ (decimal n ++ (newline ∷ []))

-- ---- the printout

-- "The program formats one group with a zero salt": memory and disk before
abbrev pub blank_box : Box
blank_box = box_of (repeated (memory_size present) 0) (repeated (disk_size present 1) 0)

unfoldable pub script_box : Box → Box
script_box s = (format present s 1 (repeated salt_size 0)).box

-- lines of values, from number n on: each is run on the box that the one before left. "A line not of this form prints `bad line N` ..
-- and ends the run"
unfoldable pub body_printed : Box → ℕ → List (List ℕ) → List ℕ
body_printed s n [] = []
body_printed s n (line ∷ rest) =
    elim (parsed line) [
      | Some v ↦ line_shown v (ran_line s v).shown ++ body_printed (ran_line s v).box (suc n) rest
      | None ↦ bad_line n
    ]

-- "Once the first line is read it prints" the heading; "an empty input is bad at line 1"
unfoldable pub lines_printed : Box → List (List ℕ) → List ℕ
lines_printed s [] = bad_line 1
lines_printed s (line ∷ rest) = elim (equal line header) [ true ↦ heading ++ body_printed s 2 rest | false ↦ bad_line 1 ]

unfoldable pub printout : List ℕ → List ℕ
printout input = lines_printed (script_box blank_box) (lines input)
