-- The reader: what is kept between two pieces of the input, and what a byte prints. That the pieces print the printout is the claim
-- PiecesPrinted. Assumes nothing: these are definitions.
use Rattle.std.specs.Prelude.{◌≡◌, Bool, true, false, ◌&&◌, List, [], ◌∷◌, ◌++◌, ℕ, ◌+◌, ◌*◌, min, length, get_or, eqb, ltb, leb, Option, Some, None}
use Rattle.octets.specs.Part.{replaced}
use Rattle.machine.specs.Command.{Box}
use Rattle.script_lines.specs.declared.Line.{Line}
use Rattle.script_lines.specs.Syntax.{newline}
use Rattle.script_lines.specs.Reading.{blank, is_blank, after_byte, judged}
use Rattle.script_answers.specs.Answer.{most_printed, ran_line, line_shown}
use Rattle.script_printout.specs.declared.Stage.{Stage}
use Rattle.script_printout.specs.declared.Stage.TheVariants.{Header, Body, Ended}
use Rattle.script_printout.specs.declared.Reader.{Reader}
use Rattle.script_printout.specs.declared.Progress.{Progress}
use Rattle.script_printout.specs.Printout.{header, heading, bad_line}

abbrev pub reader_of : ℕ → Stage → Reader
reader_of number stage = record { number = number; stage = stage }

-- nothing is read: the first line is the header
abbrev pub begun : Reader
begun = reader_of 1 (Header 0)

-- what reading leaves: the reader and the box after it, and what it prints
pub record Printing : Type 0 where
  pub reader : Reader
  pub box : Box
  pub printed : List ℕ

abbrev pub printing : Reader → Box → List ℕ → Printing
printing reader box printed = record { reader = reader; box = box; printed = printed }

-- the number of the next line, counted in 64 bits
abbrev pub most_number : ℕ
most_number = 18446744073709551615

unfoldable pub next_number : ℕ → ℕ
next_number n = min (n + 1) most_number

-- at the start of the line behind line n
abbrev pub reader_behind : ℕ → Reader
reader_behind n = reader_of (next_number n) (Body blank)

-- a line that is not of the form ends the run
unfoldable pub stopped : ℕ → Box → Printing
stopped number s = printing (reader_of number Ended) s (bad_line number)

-- the header at its end, k of its bytes read
unfoldable pub header_end : ℕ → ℕ → Box → Printing
header_end number k s =
    elim (eqb k (length header)) [
      | true ↦ printing (reader_behind number) s heading
      | false ↦ stopped number s
    ]

-- a line of values at its end
unfoldable pub line_end : ℕ → Line → Box → Printing
line_end number line s =
    elim (judged line) [
      | Some v ↦ printing (reader_behind number) (ran_line s v).box (line_shown v (ran_line s v).shown)
      | None ↦ stopped number s
    ]

-- one byte of the header
unfoldable pub header_byte : ℕ → ℕ → Box → ℕ → Printing
header_byte number k s b =
    elim (eqb b newline) [
      | true ↦ header_end number k s
      | false ↦ elim (ltb k (length header) && eqb (get_or header k 0) b) [
        | true ↦ printing (reader_of number (Header (k + 1))) s []
        | false ↦ stopped number s
      ]
    ]

-- one byte of a line of values
unfoldable pub body_byte : ℕ → Line → Box → ℕ → Printing
body_byte number line s b =
    elim (eqb b newline) [
      | true ↦ line_end number line s
      | false ↦ elim (after_byte line b) [
        | Some next ↦ printing (reader_of number (Body next)) s []
        | None ↦ stopped number s
      ]
    ]

unfoldable pub byte_read : Reader → Box → ℕ → Printing
byte_read r s b =
    elim r.stage [
      | Header k ↦ header_byte r.number k s b
      | Body line ↦ body_byte r.number line s b
      | Ended ↦ printing r s []
    ]

-- one after the other
abbrev pub prefixed : List ℕ → Printing → Printing
prefixed before p = printing p.reader p.box (before ++ p.printed)

unfoldable pub piece_read : Reader → Box → List ℕ → Printing
piece_read r s [] = printing r s []
piece_read r s (b ∷ piece) = prefixed (byte_read r s b).printed (piece_read (byte_read r s b).reader (byte_read r s b).box piece)

-- the end of the input ends the last line, if a byte of it is read
unfoldable pub body_end : Reader → Line → Box → Printing
body_end r line s = elim (is_blank line) [ true ↦ printing r s [] | false ↦ line_end r.number line s ]

unfoldable pub input_end : Reader → Box → Printing
input_end r s = elim r.stage [ Header k ↦ header_end r.number k s | Body line ↦ body_end r line s | Ended ↦ printing r s [] ]

-- ---- into a buffer

-- what is printed goes into a buffer, from a place on: what that leaves, and the place behind it
pub record Placed : Type 0 where
  pub reader : Reader
  pub box : Box
  pub out : List ℕ
  pub end : ℕ

abbrev pub placed_of : Progress → Box → List ℕ → Placed
placed_of p box out = record { reader = p.reader; box = box; out = out; end = p.end }

-- nothing is read or printed
abbrev pub placed_unaltered : Reader → Box → List ℕ → Placed
placed_unaltered r box out = record { reader = r; box = box; out = out; end = 0 }

unfoldable pub placed : List ℕ → ℕ → Printing → Placed
placed out at p = record { reader = p.reader; box = p.box; out = replaced out at p.printed; end = at + length p.printed }

-- where a step leaves the box alone, its placing is the same on every box
abbrev pub OnEveryBox : (Box → Printing) → List ℕ → ℕ → Progress → List ℕ → Type 0
OnEveryBox step out at p out' = (s : Box) → placed_of p s out' ≡ placed out at (step s)

-- a call of the library: nothing is read where the buffer cannot hold a line for each byte
pub record Fed : Type 0 where
  pub taken : Bool
  pub placed : Placed

-- what it answers, with the box and the buffer that it leaves. Where it answers none, the reader is as it was: r
abbrev pub fed_of : Reader → Option Progress → Box → List ℕ → Fed
fed_of r (Some p) box out = record { taken = true; placed = placed_of p box out }
fed_of r None box out = record { taken = false; placed = placed_unaltered r box out }

unfoldable pub fed : Reader → Box → List ℕ → List ℕ → Fed
fed r s piece out =
    elim (leb (length piece * most_printed) (length out)) [
      | true ↦ record { taken = true; placed = placed out 0 (piece_read r s piece) }
      | false ↦ record { taken = false; placed = placed out 0 (printing r s []) }
    ]

unfoldable pub finished : Reader → Box → List ℕ → Fed
finished r s out =
    elim (leb most_printed (length out)) [
      | true ↦ record { taken = true; placed = placed out 0 (input_end r s) }
      | false ↦ record { taken = false; placed = placed out 0 (printing r s []) }
    ]
