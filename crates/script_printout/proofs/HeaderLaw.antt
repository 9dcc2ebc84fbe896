-- The header, read byte by byte, prints what the definition of the whole says. Assumes nothing.
use mathlib.Core.Path.{◌≡◌, refl, ap, sym, ◌∙◌}
use mathlib.Core.Bool.{Bool, true, false, ◌&&◌, not}
use mathlib.Mathlib.Data.Bool.Basic.{and_elim_left, and_elim_right}
use mathlib.Core.List.{List, [], ◌∷◌, ◌++◌, append_assoc, append-nil}
use Prim.Native.Nat.{ℕ, zero, suc, ◌+◌, ◌≤◌, ◌<◌}
use native.Mathlib.Numerals.{add-one}
use native.Mathlib.Omega.{arith}
use borrow.Author.Tests.{eqb-true, eqb-false, ltb-true, ltb-false, not-true}
use lib.Dec.{eqb, ltb}
use lib.ListN.{length, take, get_or, length-append}
use lib.Seq.{take-suc, take-length, length-take-le, get_or_at}
use Rattle.octets.proofs.EqualLaw.{equal_yes, equal_no}
use Rattle.machine.specs.Command.{Box}
use Rattle.script_lines.specs.Syntax.{newline, cut, lines}
use Rattle.script_lines.specs.Reading.{blank}
use Rattle.script_lines.proofs.CutLaw.{Without, cut_at, cut_line, cut_further}
use Rattle.script_printout.specs.declared.Stage.TheVariants.{Header, Body}
use Rattle.script_printout.specs.Printout.{header, heading, bad_line, body_printed, lines_printed}
use Rattle.script_printout.specs.Reader.{printing, reader_of, most_number, next_number, stopped, byte_read, piece_read, input_end}
use Rattle.script_printout.proofs.ReaderLaw.{number_next, header_whole, header_short, header_newline, header_next, header_longer, header_other}
use Rattle.script_printout.proofs.ReaderLaw.{whole_read, whole_next}
use Rattle.script_printout.proofs.BodyLaw.{reads_none, stopped_reads, body_reads}

-- ---- what the definition of the whole gives for the first line

first_right : (s : Box) (line : List ℕ) (rest : List (List ℕ)) → line ≡ header → lines_printed s (line ∷ rest) ≡ heading ++ body_printed s 2 rest
unfolding lines_printed
first_right s line rest e = rw (equal_yes line header e, lines_printed)

first_wrong : (s : Box) (line : List ℕ) (rest : List (List ℕ)) → (line ≡ header → ⊥) → lines_printed s (line ∷ rest) ≡ bad_line 1
unfolding lines_printed
first_wrong s line rest e = rw (equal_no line header e, lines_printed)

-- ---- the header's bytes

-- a test of `Without` that computes
abbrev lacks : List ℕ → Bool
lacks [] = true
lacks (b ∷ l) = not (eqb b newline) && lacks l

plain_test : (l : List ℕ) → lacks l ≡ true → Without newline l
plain_test [] e = tt
plain_test (b ∷ l) e = (
  eqb-false b newline (not-true (eqb b newline) (and_elim_left (not (eqb b newline)) (lacks l) e)),
  plain_test l (and_elim_right (not (eqb b newline)) (lacks l) e),
)

plain_part : (k : ℕ) (l : List ℕ) → Without newline l → Without newline (take k l)
plain_part zero l w = tt
plain_part (suc k) [] w = tt
plain_part (suc k) (b ∷ l) w = (w.0, plain_part k l w.1)

plain : (k : ℕ) → Without newline (take k header)
unfolding header
plain k = plain_part k header (plain_test header refl)

module _ (k : ℕ) (h : k ≤ length header) where
  whole : k ≡ length header → take k header ≡ header
  whole e = ap (λ (n : ℕ). take n header) e ∙ take-length header

  short : (k ≡ length header → ⊥) → take k header ≡ header → ⊥
  short n e = n (sym (length-take-le k header h) ∙ ap length e)

  -- a byte that is not the header's next one
  other : (b : ℕ) (rest : List ℕ) → (k < length header → get_or header k 0 ≡ b → ⊥) → take k header ++ (b ∷ rest) ≡ header → ⊥
  other b rest n e =
      let size = length-take-le k header h in
      n (omega (arith, ap length e, length-append (take k header) (b ∷ rest), size))
      (ap (λ (l : List ℕ). get_or l k 0) (sym e) ∙ get_or_at (take k header) b rest 0 k size)

-- ---- its end

end_short : (k : ℕ) (s : Box) → k ≤ length header → (k ≡ length header → ⊥) → lines_printed s (lines (take k header)) ≡ bad_line 1
unfolding lines_printed cut
end_short zero s h n = refl
end_short (suc k) s h n =
    ap (lines_printed s) (cut_line newline (take (suc k) header) (plain (suc k)) (omega (arith, length-take-le (suc k) header h)))
    ∙ first_wrong s (take (suc k) header) [] (short (suc k) h n)

end_whole : (k : ℕ) (s : Box) → k ≤ length header → k ≡ length header → lines_printed s (lines (take k header)) ≡ heading
unfolding body_printed header
end_whole k s h e =
    ap (lines_printed s) (cut_line newline (take k header) (plain k) (omega (arith, length-take-le k header h, e)))
    ∙ first_right s (take k header) [] (whole k h e)
    ∙ append-nil heading

end_of_input : (k : ℕ) (s : Box) → k ≤ length header → (t : Bool) → eqb k (length header) ≡ t
    → (input_end (reader_of 1 (Header k)) s).printed ≡ lines_printed s (lines (take k header))
unfolding input_end stopped
end_of_input k s h true e =
    let all = eqb-true k (length header) e in
    ap (λ p. p.printed) (header_whole 1 k s all) ∙ sym (end_whole k s h all)
end_of_input k s h false e =
    let some = eqb-false k (length header) e in
    ap (λ p. p.printed) (header_short 1 k s some) ∙ sym (end_short k s h some)

-- ---- all of it

module _ (b : ℕ) (input : List ℕ) (k : ℕ) (s : Box) (h : k ≤ length header) (few : 1 + length (b ∷ input) < most_number + 1)
    (again : k < length header → whole_read (reader_of 1 (Header (k + 1))) s input ≡ lines_printed s (lines (take (k + 1) header ++ input)))
  where
    abbrev Printed : Type 0
    Printed = whole_read (reader_of 1 (Header k)) s (b ∷ input) ≡ lines_printed s (lines (take k header ++ (b ∷ input)))

    split : b ≡ newline → lines (take k header ++ (b ∷ input)) ≡ take k header ∷ lines input
    split e = ap (λ (x : ℕ). lines (take k header ++ (x ∷ input))) e ∙ cut_at newline [] (take k header) input (plain k)

    header_ends : b ≡ newline → (t : Bool) → eqb k (length header) ≡ t → Printed
    unfolding byte_read
    header_ends e true q =
        let all = eqb-true k (length header) q in
        let second = number_next 1 (omega arith) in
        whole_next (reader_of 1 (Header k)) s b input (printing (reader_of (next_number 1) (Body blank)) s heading)
        (header_newline 1 k s b e ∙ header_whole 1 k s all)
        ∙ ap (λ (x : List ℕ). heading ++ x)
        (body_reads input [] blank (next_number 1) s (omega (arith, second)) reads_none ∙ ap (λ (m : ℕ). body_printed s m (lines input)) second)
        ∙ sym (ap (lines_printed s) (split e) ∙ first_right s (take k header) (lines input) (whole k h all))
    header_ends e false q =
        let some = eqb-false k (length header) q in
        whole_next (reader_of 1 (Header k)) s b input (stopped 1 s) (header_newline 1 k s b e ∙ header_short 1 k s some)
        ∙ stopped_reads 1 s input
        ∙ sym (ap (lines_printed s) (split e) ∙ first_wrong s (take k header) (lines input) (short k h some))

    header_stops : (b ≡ newline → ⊥) → byte_read (reader_of 1 (Header k)) s b ≡ stopped 1 s → (k < length header → get_or header k 0 ≡ b → ⊥) → Printed
    header_stops n e o =
        let first = cut_further newline [] (take k header) b input (plain k) n in
        whole_next (reader_of 1 (Header k)) s b input (stopped 1 s) e
        ∙ stopped_reads 1 s input
        ∙ sym (ap (lines_printed s) first.same ∙ first_wrong s (take k header ++ (b ∷ first.piece)) first.pieces (other k h b first.piece o))

    header_goes_on : (b ≡ newline → ⊥) → (t u : Bool) → ltb k (length header) ≡ t → eqb (get_or header k 0) b ≡ u → Printed
    unfolding byte_read
    header_goes_on n false u p q = header_stops n (header_longer 1 k s b n p) (λ l. absurd (omega (arith, ltb-false k (length header) p)))
    header_goes_on n true false p q =
        let differs = eqb-false (get_or header k 0) b q in
        header_stops n (header_other 1 k s b n (ltb-true k (length header) p) differs) (λ l. differs)
    header_goes_on n true true p q =
        let below = ltb-true k (length header) p in
        let same = eqb-true (get_or header k 0) b q in
        whole_next (reader_of 1 (Header k)) s b input (printing (reader_of 1 (Header (k + 1))) s []) (header_next 1 k s b n below same)
        ∙ again below
        ∙ ap (λ (x : List ℕ). lines_printed s (lines x))
        (ap (λ (m : ℕ). take m header ++ input) (add-one k) ∙ ap (λ (x : List ℕ). x ++ input) (take-suc header k 0 below)
        ∙ append_assoc (take k header) (get_or header k 0 ∷ []) input
        ∙ ap (λ (c : ℕ). take k header ++ (c ∷ input)) same)

    header_byte_lem : (t : Bool) → eqb b newline ≡ t → Printed
    header_byte_lem true e = header_ends (eqb-true b newline e) (eqb k (length header)) refl
    header_byte_lem false e = header_goes_on (eqb-false b newline e) (ltb k (length header)) (eqb (get_or header k 0) b) refl refl

pub header_reads : (input : List ℕ) (k : ℕ) (s : Box) → k ≤ length header → 1 + length input < most_number + 1
    → whole_read (reader_of 1 (Header k)) s input ≡ lines_printed s (lines (take k header ++ input))
unfolding piece_read
header_reads [] k s h few =
    end_of_input k s h (eqb k (length header)) refl ∙ ap (λ (x : List ℕ). lines_printed s (lines x)) (sym (append-nil (take k header)))
header_reads (b ∷ input) k s h few =
    header_byte_lem b input k s h few (λ l. header_reads input (k + 1) s (omega (arith, l)) (omega arith)) (eqb b newline) refl
