-- The claim of specs/Claims.antt, proved: however the reads cut a script, the turns have its printout written. Assumes nothing.
use mathlib.Core.Path.{◌≡◌, refl, ap, sym, ◌∙◌}
use mathlib.Core.Bool.{Bool, true, false, false≢true}
use mathlib.Core.List.{List, [], ◌∷◌, ◌++◌, map, append-nil}
use Prim.Native.Nat.{ℕ, zero, suc, ◌*◌, ◌≤◌, ◌<◌}
use native.Mathlib.Omega.{arith}
use borrow.Author.Tests.{le-leb, not-false}
use lib.ListN.{length}
use Rattle.std.specs.Prelude.{Some}
use Rattle.machine.specs.Command.{Box}
use Rattle.script_answers.specs.Answer.{most_printed}
use Rattle.script_printout.specs.declared.Stage.TheVariants.{Header, Body, Ended}
use Rattle.script_printout.specs.declared.Stage.{Stage}
use Rattle.script_printout.specs.declared.Reader.{Reader}
use Rattle.script_printout.specs.Reader.{Printing, printing, prefixed, piece_read, input_end, Fed, fed}
use Rattle.script_printout.specs.Claims.{Call, output_of, all_written, BuffersFit, input_of}
use Rattle.script_printout.proofs.ReaderLaw.{byte_ended, end_ended}
use Rattle.script_printout.proofs.Theorems.{calls_whole, pieces_printed}
use Rattle.script_io.specs.Turn.{stepped, has_ended, is_end, goes_on}
use Rattle.script_io.proofs.TurnLaw.{stepped_some}
use Rattle.script_io.specs.Claims.{Read, turn_of, turns_written, call_of, GetBytes, TurnsPrinted}

-- ---- behind a bad line

by_stage : Stage → Bool
by_stage t = elim t [ Header k ↦ false | Body line ↦ false | Ended ↦ true ]

is_ended : (t : Stage) → by_stage t ≡ true → t ≡ Ended
unfolding by_stage
is_ended (Header k) e = absurd (false≢true e)
is_ended (Body line) e = absurd (false≢true e)
is_ended Ended e = refl

module _ (r : Reader) (s : Box) (e : r.stage ≡ Ended) where
  piece_ended : (piece : List ℕ) → piece_read r s piece ≡ printing r s []
  unfolding piece_read
  piece_ended [] = refl
  piece_ended (b ∷ piece) =
      ap (λ (p : Printing). prefixed p.printed (piece_read p.reader p.box piece)) (byte_ended r s b e) ∙ piece_ended piece

  -- nothing more is written
  ended_silent : (calls : List Call) (last : List ℕ) → BuffersFit calls → most_printed ≤ length last → all_written r s calls last ≡ []
  ended_silent calls last h l =
      calls_whole calls last r s h l
      ∙ ap (λ (p : Printing). p.printed ++ (input_end p.reader p.box).printed) (piece_ended (input_of calls))
      ∙ ap (λ (p : Printing). p.printed) (end_ended r s e)

-- ---- a turn

-- that gets bytes
module _ (r : Reader) (s : Box) where
  fed_taken : (piece out : List ℕ) → length piece * most_printed ≤ length out → (fed r s piece out).taken ≡ true
  unfolding fed
  fed_taken piece out h = rw (le-leb (length piece * most_printed) (length out) h, fed)

-- and after which none follows: it was a bad line's
stops : (n : ℕ) (f : Fed) → 0 < n → f.taken ≡ true → goes_on (turn_of n f) ≡ false → f.placed.reader.stage ≡ Ended
unfolding goes_on is_end has_ended by_stage
stops zero f h t e = absurd (omega arith)
stops (suc k) f h t e = is_ended f.placed.reader.stage (not-false (by_stage f.placed.reader.stage) (rw t at e))

-- ---- all of them

chosen : (b : Bool) (more rest : List ℕ) → (b ≡ true → more ≡ rest) → (b ≡ false → [] ≡ rest) → elim b [ true ↦ more | false ↦ [] ] ≡ rest
chosen true more rest h k = h refl
chosen false more rest h k = k refl

-- what a turn that leaves f has written, with those behind it
abbrev written_from : ℕ → List Read → Fed → List ℕ
written_from got reads f =
    output_of f ++ elim (goes_on (turn_of got f)) [ true ↦ turns_written f.placed.reader f.placed.box reads | false ↦ [] ]

turns_calls : (reads : List Read) (last : Read) (r : Reader) (s : Box) → GetBytes reads → last.got ≡ 0 → BuffersFit (map call_of reads)
    → most_printed ≤ length last.buffer
    → turns_written r s (reads ++ (last ∷ [])) ≡ all_written r s (map call_of reads) last.buffer
unfolding turns_written all_written stepped
turns_calls [] last r s g e h l =
    let f = stepped r s (Some last.got) last.piece last.buffer in
    ap (λ (t : List ℕ). output_of f ++ t) (chosen (goes_on (turn_of last.got f)) [] [] (λ _. refl) (λ _. refl))
    ∙ append-nil (output_of f)
    ∙ ap (λ (n : ℕ). output_of (stepped r s (Some n) last.piece last.buffer)) e
turns_calls (x ∷ reads) last r s g e h l =
    let f = fed r s (call_of x).piece x.buffer in
    let r' = f.placed.reader in
    let s' = f.placed.box in
    let taken = fed_taken r s (call_of x).piece x.buffer h.0 in
    ap (written_from x.got (reads ++ (last ∷ []))) (stepped_some r s x.piece x.buffer x.got g.0)
    ∙ ap (λ (t : List ℕ). output_of f ++ t)
    (chosen (goes_on (turn_of x.got f)) (turns_written r' s' (reads ++ (last ∷ []))) (all_written r' s' (map call_of reads) last.buffer)
    (λ _. turns_calls reads last r' s' g.1 e h.1 l)
    (λ b. sym (ended_silent r' s' (stops x.got f g.0 taken b) (map call_of reads) last.buffer h.1 l)))

pub turns_printed : TurnsPrinted
turns_printed reads last g e h l few = turns_calls reads last _ _ g e h l ∙ pieces_printed (map call_of reads) last.buffer h l few
