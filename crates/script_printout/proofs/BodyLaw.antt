-- Lines of values, read byte by byte, print what the definition of the whole says. Assumes nothing.
use mathlib.Core.Path.{◌≡◌, refl, ap, sym, ◌∙◌}
use mathlib.Core.Bool.{Bool, true, false}
use mathlib.Core.List.{List, [], ◌∷◌, ◌++◌, append_assoc, append-nil}
use Prim.Native.Nat.{ℕ, suc, ◌+◌, ◌<◌}
use native.Mathlib.Omega.{arith}
use borrow.Author.Tests.{eqb-true, eqb-false}
use lib.Dec.{eqb}
use lib.ListN.{length}
use Rattle.std.specs.Prelude.{Option, Some, None}
use Rattle.machine.specs.Command.{Box}
use Rattle.script_lines.specs.declared.Values.{Values}
use Rattle.script_lines.specs.declared.Line.{Line}
use Rattle.script_lines.specs.Syntax.{newline, cut, lines, parsed}
use Rattle.script_lines.specs.Reading.{blank, is_blank, after_byte, read_on, judged, verdict}
use Rattle.script_lines.proofs.CutLaw.{Without, without_append, cut_at, cut_line, cut_further}
use Rattle.script_lines.proofs.ReadingLaw.{wrong_stays, read_on_append, going_not_blank}
use Rattle.script_lines.proofs.Theorems.{line_read}
use Rattle.script_answers.specs.Answer.{ran_line, line_shown}
use Rattle.script_printout.specs.declared.Stage.TheVariants.{Body, Ended}
use Rattle.script_printout.specs.Printout.{bad_line, body_printed}
use Rattle.script_printout.specs.Reader.{printing, reader_of, most_number, next_number, stopped, byte_read, line_end, piece_read, input_end}
use Rattle.script_printout.proofs.ReaderLaw.{number_next, line_right, line_malformed, body_newline, body_going, body_wrong, end_blank, end_line}
use Rattle.script_printout.proofs.ReaderLaw.{whole_read, whole_next}

-- ---- what the definition of the whole gives for the first line

pub body_right : (s : Box) (n : ℕ) (line : List ℕ) (rest : List (List ℕ)) (v : Values) → parsed line ≡ Some v
    → body_printed s n (line ∷ rest) ≡ line_shown v (ran_line s v).shown ++ body_printed (ran_line s v).box (suc n) rest
unfolding body_printed
body_right s n line rest v e = rw (e, body_printed)

pub body_malformed : (s : Box) (n : ℕ) (line : List ℕ) (rest : List (List ℕ)) → parsed line ≡ None → body_printed s n (line ∷ rest) ≡ bad_line n
unfolding body_printed
body_malformed s n line rest e = rw (e, body_printed)

-- ---- after the end nothing is printed

pub ended_reads : (n : ℕ) (s : Box) (input : List ℕ) → whole_read (reader_of n Ended) s input ≡ []
unfolding byte_read piece_read input_end
ended_reads n s [] = refl
ended_reads n s (b ∷ input) = whole_next (reader_of n Ended) s b input (printing (reader_of n Ended) s []) refl ∙ ended_reads n s input

-- a line that is not of the form prints that, and no more
pub stopped_reads : (n : ℕ) (s : Box) (input : List ℕ) → (stopped n s).printed ++ whole_read (stopped n s).reader (stopped n s).box input ≡ bad_line n
unfolding stopped
stopped_reads n s input = ap (λ (x : List ℕ). bad_line n ++ x) (ended_reads n s input) ∙ append-nil (bad_line n)

-- ---- the line that is being read

-- a line of which a byte is read is not blank
one_not_blank : (next : Option Line) (b : ℕ) (line : Line) → read_on next (b ∷ []) ≡ Some line → is_blank line ≡ false
unfolding read_on
one_not_blank (Some l) b line e = going_not_blank l line b e
one_not_blank None b line e = let z : ◌≡◌ {A = ℕ} 0 1 = cc in absurd (omega arith)

read_not_blank : (text : List ℕ) (next : Option Line) (b : ℕ) (line : Line) → read_on next (b ∷ text) ≡ Some line → is_blank line ≡ false
read_not_blank [] next b line e = one_not_blank next b line e
read_not_blank (c ∷ text) next b line e = read_not_blank text (read_on next (b ∷ [])) c line (sym (read_on_append next (b ∷ []) (c ∷ text)) ∙ e)

-- its text, without newline, and the line as it is read
pub record Reads (text : List ℕ) (line : Line) : Type 0 where
  pub plain : Without newline text
  pub read : read_on (Some blank) text ≡ Some line

pub reads_none : Reads [] blank
unfolding read_on
reads_none = record { plain = tt; read = refl }

reads_next : (text : List ℕ) (line next : Line) (b : ℕ) → (b ≡ newline → ⊥) → Reads text line → after_byte line b ≡ Some next
    → Reads (text ++ (b ∷ [])) next
unfolding read_on
reads_next text line next b n r e =
    record {
      plain = without_append newline text (b ∷ []) r.plain (n, tt);
      read = read_on_append (Some blank) text (b ∷ []) ∙ ap (λ (x : Option Line). read_on x (b ∷ [])) r.read ∙ e;
    }

reads_parsed : (text : List ℕ) (line : Line) → Reads text line → parsed text ≡ judged line
reads_parsed text line r = sym (line_read text) ∙ ap verdict r.read

reads_wrong : (text : List ℕ) (line : Line) (b : ℕ) (rest : List ℕ) → Reads text line → after_byte line b ≡ None
    → parsed (text ++ (b ∷ rest)) ≡ None
unfolding read_on
reads_wrong text line b rest r e =
    sym (line_read (text ++ (b ∷ rest)))
    ∙ ap verdict
    (read_on_append (Some blank) text (b ∷ rest) ∙ ap (λ (x : Option Line). read_on x (b ∷ rest)) r.read ∙ ap (λ (x : Option Line). read_on x rest) e ∙ wrong_stays rest)

-- ---- its end

-- the line's end prints what the definition prints for its text
end_printed : (text : List ℕ) (line : Line) (n : ℕ) (s : Box) (j : Option Values) → judged line ≡ j → Reads text line
    → (line_end n line s).printed ≡ body_printed s n (text ∷ [])
unfolding body_printed stopped
end_printed text line n s (Some v) e r =
    ap (λ p. p.printed) (line_right n line s v e)
    ∙ sym (append-nil (line_shown v (ran_line s v).shown))
    ∙ sym (body_right s n text [] v (reads_parsed text line r ∙ e))
end_printed text line n s None e r =
    ap (λ p. p.printed) (line_malformed n line s e) ∙ sym (body_malformed s n text [] (reads_parsed text line r ∙ e))

-- the input's end
input_end_lem : (text : List ℕ) (line : Line) (n : ℕ) (s : Box) → Reads text line → (input_end (reader_of n (Body line)) s).printed ≡ body_printed s n (lines text)
unfolding read_on body_printed is_blank cut input_end
input_end_lem [] line n s r =
    let same : blank ≡ line = cc r.read in
    ap (λ p. p.printed) (end_blank (reader_of n (Body line)) s line (ap is_blank (sym same)))
input_end_lem (b ∷ text) line n s r =
    ap (λ p. p.printed) (end_line (reader_of n (Body line)) s line (read_not_blank text (Some blank) b line r.read))
    ∙ end_printed (b ∷ text) line n s (judged line) refl r
    ∙ ap (body_printed s n) (sym (cut_line newline (b ∷ text) r.plain (omega arith)))

-- ---- all of it

module _ (b : ℕ) (input text : List ℕ) (line : Line) (n : ℕ) (s : Box) (h : n + length (b ∷ input) < most_number + 1) (r : Reads text line)
    (again : (t : List ℕ) (l : Line) (m : ℕ) (u : Box) → m + length input < most_number + 1 → Reads t l
    → whole_read (reader_of m (Body l)) u input ≡ body_printed u m (lines (t ++ input)))
  where
    split : b ≡ newline → lines (text ++ (b ∷ input)) ≡ text ∷ lines input
    split e = ap (λ (x : ℕ). lines (text ++ (x ∷ input))) e ∙ cut_at newline [] text input r.plain

    body_ends : b ≡ newline → (j : Option Values) → judged line ≡ j
        → whole_read (reader_of n (Body line)) s (b ∷ input) ≡ body_printed s n (lines (text ++ (b ∷ input)))
    unfolding byte_read
    body_ends e (Some v) k =
        let rose = number_next n (omega arith) in
        let rest = (ran_line s v).box in
        whole_next (reader_of n (Body line)) s b input (printing (reader_of (next_number n) (Body blank)) rest (line_shown v (ran_line s v).shown))
        (body_newline n line s b e ∙ line_right n line s v k)
        ∙ ap (λ (x : List ℕ). line_shown v (ran_line s v).shown ++ x)
        (again [] blank (next_number n) rest (omega (arith, rose)) reads_none ∙ ap (λ (m : ℕ). body_printed rest m (lines input)) rose)
        ∙ sym (ap (body_printed s n) (split e) ∙ body_right s n text (lines input) v (reads_parsed text line r ∙ k))
    body_ends e None k =
        whole_next (reader_of n (Body line)) s b input (stopped n s) (body_newline n line s b e ∙ line_malformed n line s k)
        ∙ stopped_reads n s input
        ∙ sym (ap (body_printed s n) (split e) ∙ body_malformed s n text (lines input) (reads_parsed text line r ∙ k))

    body_goes_on : (b ≡ newline → ⊥) → (next : Option Line) → after_byte line b ≡ next
        → whole_read (reader_of n (Body line)) s (b ∷ input) ≡ body_printed s n (lines (text ++ (b ∷ input)))
    unfolding byte_read
    body_goes_on e (Some next) k =
        whole_next (reader_of n (Body line)) s b input (printing (reader_of n (Body next)) s []) (body_going n line next s b e k)
        ∙ again (text ++ (b ∷ [])) next n s (omega arith) (reads_next text line next b e r k)
        ∙ ap (λ (x : List ℕ). body_printed s n (lines x)) (append_assoc text (b ∷ []) input)
    body_goes_on e None k =
        let first = cut_further newline [] text b input r.plain e in
        whole_next (reader_of n (Body line)) s b input (stopped n s) (body_wrong n line s b e k)
        ∙ stopped_reads n s input
        ∙ sym (ap (body_printed s n) first.same
        ∙ body_malformed s n (text ++ (b ∷ first.piece)) first.pieces (reads_wrong text line b first.piece r k))

    body_next : (t : Bool) → eqb b newline ≡ t
        → whole_read (reader_of n (Body line)) s (b ∷ input) ≡ body_printed s n (lines (text ++ (b ∷ input)))
    body_next true e = body_ends (eqb-true b newline e) (judged line) refl
    body_next false e = body_goes_on (eqb-false b newline e) (after_byte line b) refl

pub body_reads : (input text : List ℕ) (line : Line) (n : ℕ) (s : Box) → n + length input < most_number + 1 → Reads text line
    → whole_read (reader_of n (Body line)) s input ≡ body_printed s n (lines (text ++ input))
unfolding piece_read
body_reads [] text line n s h r = input_end_lem text line n s r ∙ ap (λ (x : List ℕ). body_printed s n (lines x)) (sym (append-nil text))
body_reads (b ∷ input) text line n s h r = body_next b input text line n s h r (λ t l m u k q. body_reads input t l m u k q) (eqb b newline) refl
