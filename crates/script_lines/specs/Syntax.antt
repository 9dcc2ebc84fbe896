-- The form of a script, after document 01, "The script and its printout": its lines, and which line has four values. Assumes nothing:
-- these are definitions.
use Rattle.std.specs.Prelude.{Bool, true, false, ◌&&◌, ℕ, length, get_or, eqb, leb, Option, Some, None}
use mathlib.Core.List.{List, [], ◌∷◌, all}
use Rattle.octets.specs.Part.{equal}
use Rattle.decimal.specs.Decimal.{decimal, spelled}
use Rattle.script_lines.specs.declared.Values.{Values}

-- the line end, and what stands between two values, in ASCII
abbrev pub newline : ℕ
newline = 10

abbrev pub space : ℕ
space = 32

-- b in front of the first of some pieces
abbrev pub in_front : ℕ → List (List ℕ) → List (List ℕ)
in_front b [] = (b ∷ []) ∷ []
in_front b (piece ∷ pieces) = (b ∷ piece) ∷ pieces

-- a text cut at each separator; `none` are the pieces of an empty one
unfoldable pub cut : ℕ → List (List ℕ) → List ℕ → List (List ℕ)
cut separator none [] = none
cut separator none (b ∷ text) = elim (eqb b separator) [ true ↦ [] ∷ cut separator none text | false ↦ in_front b (cut separator none text) ]

-- "the last line may lack its newline": behind the last newline there is a line only if there is a byte
abbrev pub lines : List ℕ → List (List ℕ)
lines text = cut newline [] text

-- "one space between": behind a space there always is a field, if an empty one
abbrev pub fields : List ℕ → List (List ℕ)
fields line = cut space ([] ∷ []) line

-- "A value is 0 to 4,294,967,295"
abbrev pub most_value : ℕ
most_value = 4294967295

-- "decimal without sign or leading zeros": a text that is the decimal of the number it spells
unfoldable pub is_value : List ℕ → Bool
is_value field = equal field (decimal (spelled field)) && leb (spelled field) most_value

-- "lines of values in that order": kind, block, now and value, four of them
unfoldable pub is_line : List ℕ → Bool
is_line line = eqb (length (fields line)) 4 && all (fields line) is_value

abbrev pub value_at : List ℕ → ℕ → ℕ
value_at line i = spelled (get_or (fields line) i [])

abbrev pub values_of : List ℕ → Values
values_of line = record { kind = value_at line 0; block = value_at line 1; time = value_at line 2; value = value_at line 3 }

-- a line's values, or "not of this form"
unfoldable pub parsed : List ℕ → Option Values
parsed line = elim (is_line line) [ true ↦ Some (values_of line) | false ↦ None ]
