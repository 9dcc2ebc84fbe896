-- The claim of specs/Claims.antt, proved: however the input is cut, the calls have its printout written. Assumes nothing.
use mathlib.Core.Path.{◌≡◌, ap, sym, ◌∙◌}
use mathlib.Core.Bool.{true}
use mathlib.Core.List.{List, [], ◌∷◌, ◌++◌, flatten, append_assoc}
use Prim.Native.Nat.{ℕ, ◌+◌, ◌*◌, ◌≤◌}
use native.Mathlib.Nat.{zero-add}
use native.Mathlib.Omega.{arith}
use borrow.Author.Tests.{le-leb}
use lib.ListN.{length, take, drop}
use lib.Seq.{take-append_seam}
use Rattle.octets.specs.Part.{part, replaced}
use Rattle.machine.specs.Command.{Box}
use Rattle.script_answers.specs.Answer.{most_printed}
use Rattle.script_printout.specs.declared.Reader.{Reader}
use Rattle.script_printout.specs.Printout.{blank_box, script_box, printout}
use Rattle.script_printout.specs.Reader.{Printing, piece_read, input_end, placed, Fed, fed, finished}
use Rattle.script_printout.specs.Claims.{Call, output_of, all_written, BuffersFit, input_of, PiecesPrinted}
use Rattle.script_printout.proofs.ReaderLaw.{whole_read, piece_append}
use Rattle.script_printout.proofs.HeaderLaw.{header_reads}

-- ---- a call

taken : Printing → List ℕ → Fed
taken p out = record { taken = true; placed = placed out 0 p }

-- what stands at the start of the buffer is what was printed
written_printed : (p : Printing) (out : List ℕ) → output_of (taken p out) ≡ p.printed
unfolding taken placed part replaced
written_printed p out =
    let behind = drop (0 + length p.printed) out in
    ap (λ (n : ℕ). take n (p.printed ++ behind)) (zero-add (length p.printed)) ∙ take-append_seam p.printed behind

fed_taken : (r : Reader) (s : Box) (piece out : List ℕ) → length piece * most_printed ≤ length out → fed r s piece out ≡ taken (piece_read r s piece) out
unfolding fed taken
fed_taken r s piece out h = rw (le-leb (length piece * most_printed) (length out) h, fed)

finished_taken : (r : Reader) (s : Box) (out : List ℕ) → most_printed ≤ length out → finished r s out ≡ taken (input_end r s) out
unfolding finished taken
finished_taken r s out h = rw (le-leb most_printed (length out) h, finished)

-- ---- all of them

-- they have written what the whole input, read at once, prints
pub calls_whole : (calls : List Call) (last : List ℕ) (r : Reader) (s : Box) → BuffersFit calls → most_printed ≤ length last
    → all_written r s calls last ≡ whole_read r s (input_of calls)
unfolding all_written flatten piece_read taken placed
calls_whole [] last r s h e = ap output_of (finished_taken r s last e) ∙ written_printed (input_end r s) last
calls_whole (c ∷ calls) last r s h e =
    let p = piece_read r s c.piece in
    let q = piece_read p.reader p.box (input_of calls) in
    ap (λ (f : Fed). output_of f ++ all_written f.placed.reader f.placed.box calls last) (fed_taken r s c.piece c.buffer h.0)
    ∙ ap (λ (x : List ℕ). x ++ all_written p.reader p.box calls last) (written_printed p c.buffer)
    ∙ ap (λ (x : List ℕ). p.printed ++ x) (calls_whole calls last p.reader p.box h.1 e)
    ∙ sym (append_assoc p.printed q.printed (input_end q.reader q.box).printed)
    ∙ sym (ap (λ (x : Printing). x.printed ++ (input_end x.reader x.box).printed) (piece_append r s c.piece (input_of calls)))

pub pieces_printed : PiecesPrinted
unfolding printout
pieces_printed calls last h e few =
    calls_whole calls last _ _ h e ∙ header_reads (input_of calls) 0 (script_box blank_box) (omega arith) (omega (arith, few))
