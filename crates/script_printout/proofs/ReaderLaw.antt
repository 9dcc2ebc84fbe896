-- Laws of the reader: what each definition gives, by what it looks at, and a piece read in two parts. Assumes nothing.
use mathlib.Core.Path.{◌≡◌, refl, ap, sym, ◌∙◌}
use mathlib.Core.Bool.{true, false}
use mathlib.Core.List.{List, [], ◌∷◌, ◌++◌, append_assoc}
use Prim.Native.Nat.{ℕ, suc, ◌+◌, ◌<◌}
use native.Mathlib.Nat.{min-eq_left}
use native.Mathlib.Omega.{arith}
use borrow.Author.Tests.{eq-eqb, ne_eqb, lt-ltb}
use lib.Dec.{ltb}
use lib.ListN.{length, get_or}
use Rattle.std.specs.Prelude.{Some, None}
use Rattle.machine.specs.Command.{Box}
use Rattle.script_lines.specs.declared.Values.{Values}
use Rattle.script_lines.specs.declared.Line.{Line}
use Rattle.script_lines.specs.Syntax.{newline}
use Rattle.script_lines.specs.Reading.{blank, is_blank, after_byte, judged}
use Rattle.script_answers.specs.Answer.{ran_line, line_shown}
use Rattle.script_printout.specs.declared.Stage.{Stage}
use Rattle.script_printout.specs.declared.Stage.TheVariants.{Header, Body, Ended}
use Rattle.script_printout.specs.declared.Reader.{Reader}
use Rattle.script_printout.specs.Printout.{header, heading}
use Rattle.script_printout.specs.Reader.{Printing, printing, reader_of, most_number, next_number, stopped, header_end, line_end, header_byte, body_byte}
use Rattle.script_printout.specs.Reader.{byte_read, prefixed, piece_read, body_end, input_end}

pub number_next : (n : ℕ) → n + 1 < most_number + 1 → next_number n ≡ suc n
unfolding next_number
number_next n h = min-eq_left (omega arith) ∙ omega arith

-- ---- the end of a line

pub header_whole : (n k : ℕ) (s : Box) → k ≡ length header
    → header_end n k s ≡ printing (reader_of (next_number n) (Body blank)) s heading
unfolding header_end
header_whole n k s e = rw (eq-eqb k (length header) e, header_end)

pub header_short : (n k : ℕ) (s : Box) → (k ≡ length header → ⊥) → header_end n k s ≡ stopped n s
unfolding header_end
header_short n k s e = rw (ne_eqb k (length header) e, header_end)

pub line_right : (n : ℕ) (line : Line) (s : Box) (v : Values) → judged line ≡ Some v
    → line_end n line s ≡ printing (reader_of (next_number n) (Body blank)) (ran_line s v).box (line_shown v (ran_line s v).shown)
unfolding line_end
line_right n line s v e = rw (e, line_end)

pub line_malformed : (n : ℕ) (line : Line) (s : Box) → judged line ≡ None → line_end n line s ≡ stopped n s
unfolding line_end
line_malformed n line s e = rw (e, line_end)

-- ---- a byte

pub header_newline : (n k : ℕ) (s : Box) (b : ℕ) → b ≡ newline → header_byte n k s b ≡ header_end n k s
unfolding header_byte
header_newline n k s b e = rw (eq-eqb b newline e, header_byte)

pub header_next : (n k : ℕ) (s : Box) (b : ℕ) → (b ≡ newline → ⊥) → k < length header → get_or header k 0 ≡ b
    → header_byte n k s b ≡ printing (reader_of n (Header (k + 1))) s []
unfolding header_byte
header_next n k s b e h g = rw (ne_eqb b newline e, lt-ltb k (length header) h, eq-eqb (get_or header k 0) b g, header_byte)

pub header_longer : (n k : ℕ) (s : Box) (b : ℕ) → (b ≡ newline → ⊥) → ltb k (length header) ≡ false → header_byte n k s b ≡ stopped n s
unfolding header_byte
header_longer n k s b e h = rw (ne_eqb b newline e, h, header_byte)

pub header_other : (n k : ℕ) (s : Box) (b : ℕ) → (b ≡ newline → ⊥) → k < length header → (get_or header k 0 ≡ b → ⊥)
    → header_byte n k s b ≡ stopped n s
unfolding header_byte
header_other n k s b e h g = rw (ne_eqb b newline e, lt-ltb k (length header) h, ne_eqb (get_or header k 0) b g, header_byte)

pub body_newline : (n : ℕ) (line : Line) (s : Box) (b : ℕ) → b ≡ newline → body_byte n line s b ≡ line_end n line s
unfolding body_byte
body_newline n line s b e = rw (eq-eqb b newline e, body_byte)

pub body_going : (n : ℕ) (line next : Line) (s : Box) (b : ℕ) → (b ≡ newline → ⊥) → after_byte line b ≡ Some next
    → body_byte n line s b ≡ printing (reader_of n (Body next)) s []
unfolding body_byte
body_going n line next s b e g = rw (ne_eqb b newline e, g, body_byte)

pub body_wrong : (n : ℕ) (line : Line) (s : Box) (b : ℕ) → (b ≡ newline → ⊥) → after_byte line b ≡ None → body_byte n line s b ≡ stopped n s
unfolding body_byte
body_wrong n line s b e g = rw (ne_eqb b newline e, g, body_byte)

-- ---- by the stage

module _ (r : Reader) (s : Box) (b : ℕ) where
  pub byte_ended : r.stage ≡ Ended → byte_read r s b ≡ printing r s []
  unfolding byte_read
  byte_ended e =
      ap (λ (t : Stage). elim t [ Header k ↦ header_byte r.number k s b | Body line ↦ body_byte r.number line s b | Ended ↦ printing r s [] ]) e

module _ (r : Reader) (s : Box) where
  end_by : Stage → Printing
  end_by t = elim t [ Header k ↦ header_end r.number k s | Body line ↦ body_end r line s | Ended ↦ printing r s [] ]

  pub end_header : (k : ℕ) → r.stage ≡ Header k → input_end r s ≡ header_end r.number k s
  unfolding input_end end_by
  end_header k e = ap end_by e

  pub end_body : (line : Line) → r.stage ≡ Body line → input_end r s ≡ body_end r line s
  unfolding input_end end_by
  end_body line e = ap end_by e

  pub end_ended : r.stage ≡ Ended → input_end r s ≡ printing r s []
  unfolding input_end end_by
  end_ended e = ap end_by e

  pub end_blank : (line : Line) → is_blank line ≡ true → body_end r line s ≡ printing r s []
  unfolding body_end
  end_blank line e = rw (e, body_end)

  pub end_line : (line : Line) → is_blank line ≡ false → body_end r line s ≡ line_end r.number line s
  unfolding body_end
  end_line line e = rw (e, body_end)

-- ---- pieces

-- all that is printed of an input that is read whole
abbrev pub whole_read : Reader → Box → List ℕ → List ℕ
whole_read r s input = (piece_read r s input).printed ++ (input_end (piece_read r s input).reader (piece_read r s input).box).printed

pub whole_next : (r : Reader) (s : Box) (b : ℕ) (input : List ℕ) (p : Printing) → byte_read r s b ≡ p
    → whole_read r s (b ∷ input) ≡ p.printed ++ whole_read p.reader p.box input
unfolding piece_read
whole_next r s b input p e =
    rw (e, piece_read)
    (append_assoc p.printed (piece_read p.reader p.box input).printed
    (input_end (piece_read p.reader p.box input).reader (piece_read p.reader p.box input).box).printed)

pub piece_append : (r : Reader) (s : Box) (x y : List ℕ)
    → piece_read r s (x ++ y) ≡ prefixed (piece_read r s x).printed (piece_read (piece_read r s x).reader (piece_read r s x).box y)
unfolding piece_read
piece_append r s [] y = refl
piece_append r s (b ∷ x) y =
    let p = byte_read r s b in
    ap (prefixed p.printed) (piece_append p.reader p.box x y)
    ∙ ap (printing _ _) (sym (append_assoc p.printed (piece_read p.reader p.box x).printed _))
