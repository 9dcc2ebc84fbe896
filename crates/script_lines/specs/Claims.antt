-- What is claimed of the form of a line. The claims are types; their proofs are proofs/Theorems.antt.
use Rattle.std.specs.Prelude.{◌≡◌, List, ◌∷◌, ◌++◌, ℕ, ◌≤◌, Some}
use Rattle.decimal.specs.Decimal.{decimal}
use Rattle.script_lines.specs.declared.Values.{Values}
use Rattle.script_lines.specs.Syntax.{space, most_value, parsed}
use Rattle.script_lines.specs.Reading.{blank, read_on, verdict}

-- a line read byte by byte is judged as the form says
abbrev pub LineRead : Type 0
LineRead = (line : List ℕ) → verdict (read_on (Some blank) line) ≡ parsed line

-- four values, spelled with a space between
abbrev pub line_of : Values → List ℕ
line_of v = decimal v.kind ++ (space ∷ decimal v.block ++ (space ∷ decimal v.time ++ (space ∷ decimal v.value)))

-- the values that a line may have
pub record ValuesFit (v : Values) : Type 0 where
  pub kind : v.kind ≤ most_value
  pub block : v.block ≤ most_value
  pub time : v.time ≤ most_value
  pub value : v.value ≤ most_value

pub record SyntaxOfLine : Type 0 where
  -- the line of any four values is of the form, and they are its values
  pub spelled : (v : Values) → ValuesFit v → parsed (line_of v) ≡ Some v
  -- and there is no other
  pub only : (line : List ℕ) (v : Values) → parsed line ≡ Some v → (line ≡ line_of v) × ValuesFit v
