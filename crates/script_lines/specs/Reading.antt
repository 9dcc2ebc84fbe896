-- A line read byte by byte, by what is kept of it. That this comes to what Syntax says of the line is the claim LineRead. Assumes nothing:
-- these are definitions.
use Rattle.std.specs.Prelude.{Bool, true, false, ◌&&◌, ◌||◌, not, List, [], ◌∷◌, ℕ, ◌+◌, ◌-◌, ◌*◌, eqb, ltb, leb, Option, Some, None}
use Rattle.decimal.specs.Decimal.{zero_digit}
use Rattle.script_lines.specs.Syntax.{space, most_value}
use Rattle.script_lines.specs.declared.Line.{Line}
use Rattle.script_lines.specs.declared.Values.{Values}

-- how many values stand before the last
abbrev pub before_last : ℕ
before_last = 3

-- nothing is read
abbrev pub blank : Line
blank = record { count = 0; first = 0; second = 0; third = 0; begun = false; last = 0 }

unfoldable pub is_blank : Line → Bool
is_blank line = not line.begun && eqb line.count 0

-- a space: a value stands before it, and one more is to come
unfoldable pub after_space : Line → Option Line
after_space line =
    elim (line.begun && ltb line.count before_last) [
      | true ↦ Some
          (record { count = line.count + 1; first = line.second; second = line.third; third = line.last; begun = false; last = 0 })
      | false ↦ None
    ]

-- a digit: not behind a leading zero, and the value stays within its limit
unfoldable pub after_digit : Line → ℕ → Option Line
after_digit line digit =
    elim ((line.begun && eqb line.last 0) || ltb most_value (line.last * 10 + digit)) [
      | true ↦ None
      | false ↦ Some
          (record { count = line.count; first = line.first; second = line.second; third = line.third; begun = true; last = line.last * 10 + digit })
    ]

unfoldable pub after_byte : Line → ℕ → Option Line
after_byte line b =
    elim (eqb b space) [
      | true ↦ after_space line
      | false ↦ elim (leb zero_digit b && ltb (b - zero_digit) 10) [ true ↦ after_digit line (b - zero_digit) | false ↦ None ]
    ]

-- byte after byte
unfoldable pub read_on : Option Line → List ℕ → Option Line
read_on n [] = n
read_on (Some line) (b ∷ text) = read_on (after_byte line b) text
read_on None (b ∷ text) = None

-- the line at its end
unfoldable pub judged : Line → Option Values
judged line =
    elim (line.begun && eqb line.count before_last) [
      | true ↦ Some (record { kind = line.first; block = line.second; time = line.third; value = line.last })
      | false ↦ None
    ]

abbrev pub verdict : Option Line → Option Values
verdict (Some line) = judged line
verdict None = None
