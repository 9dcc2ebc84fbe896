-- Laws of a piece that is read byte by byte into a buffer: the loop of `script::feed`. Assumes nothing.
use mathlib.Core.Path.{◌≡◌, refl, ap, ap₂, sym, ◌∙◌}
use mathlib.Core.Bool.{true, false}
use mathlib.Core.List.{List, [], ◌∷◌, ◌++◌, append_assoc, append-nil}
use Prim.Native.Nat.{ℕ, ◌+◌, ◌-◌, ◌*◌, ◌≤◌, ◌<◌}
use native.Mathlib.Nat.{zero-add}
use native.Mathlib.Numerals.{add-one}
use native.Mathlib.Omega.{arith}
use borrow.Author.Tests.{le-leb, lt-leb}
use lib.ListN.{length, drop, get_or, length-append, drop_of_length-le}
use lib.Seq.{drop-cons}
use Rattle.std.specs.Prelude.{Some, None}
use Rattle.octets.specs.Part.{replaced}
use Rattle.octets.proofs.ReplacedLaw.{replaced_none, replaced_length, replaced_next}
use Rattle.machine.specs.Command.{Box}
use Rattle.script_answers.specs.Answer.{most_printed}
use Rattle.script_printout.specs.declared.Reader.{Reader}
use Rattle.script_printout.specs.declared.Progress.{Progress}
use Rattle.script_printout.specs.Reader.{Printing, printing, byte_read, prefixed, piece_read, Placed, placed, fed_of, fed}
use Rattle.script_printout.proofs.PlaceLaw.{PrintsOn, nothing_placed, placed_text}

-- i bytes of a piece are read, and what they printed stands at the buffer's start
pub record Feeding (r : Reader) (s : Box) (piece out : List ℕ) (p : Progress) (t : Box) (now : List ℕ) (i : ℕ) : Type 0 where
  pub printed : List ℕ
  pub stands : now ≡ replaced out 0 printed
  pub end : p.end ≡ length printed
  pub rest : piece_read r s piece ≡ prefixed printed (piece_read p.reader t (drop i piece))
  pub within : i ≤ length piece
  pub inside : p.end + (length piece - i) * most_printed ≤ length out

module _ (r : Reader) (s : Box) (piece out : List ℕ) where
  pub feeding_start : (p : Progress) → p.reader ≡ r → p.end ≡ 0 → length piece * most_printed ≤ length out → Feeding r s piece out p s out 0
  feeding_start p e f h =
      record {
        printed = [];
        stands = sym (replaced_none out 0);
        end = f;
        rest = ap (λ (x : Reader). piece_read x s piece) (sym e);
        within = omega arith;
        inside = omega (arith, f);
      }

  module _ (p : Progress) (t : Box) (now : List ℕ) (i : ℕ) (f : Feeding r s piece out p t now i) where
    pub feeding_size : length now ≡ length out
    feeding_size = ap length f.stands ∙ replaced_length out 0 f.printed (omega (arith, f.inside, f.end))

    -- all of it is read
    done : length piece ≤ i → piece_read r s piece ≡ printing p.reader t f.printed
    unfolding piece_read
    done h =
        f.rest
        ∙ ap (λ (x : List ℕ). prefixed f.printed (piece_read p.reader t x)) (drop_of_length-le piece h)
        ∙ ap (printing p.reader t) (append-nil f.printed)

    pub feeding_end : length piece * most_printed ≤ length out → length piece ≤ i → (fed_of r (Some p) t now ≡ fed r s piece out) × (p.end ≤ length out)
    unfolding fed
    feeding_end fits h = (
      ap (λ (x : Placed). record { taken = true; placed = x })
          (placed_text p p.reader t f.printed out now 0 refl f.stands (f.end ∙ sym (zero-add (length f.printed)))
          ∙ ap (placed out 0) (sym (done h)))
          ∙ sym (rw (le-leb (length piece * most_printed) (length out) fits, fed)),
      omega (arith, f.inside),
    )

    module _ (b : ℕ) (p' : Progress) (t' : Box) (now' : List ℕ) (below : i < length piece) (same : b ≡ get_or piece i 0)
        (w : PrintsOn (byte_read p.reader t b) now p.end p' t' now')
      where
        abbrev step : Printing
        step = byte_read p.reader t b

        behind : p'.end ≡ p.end + length step.printed
        unfolding placed
        behind = ap (λ (x : Placed). x.end) w.0

        -- the rest of the piece begins with the byte
        goes_on : piece_read p.reader t (drop i piece) ≡ prefixed step.printed (piece_read p'.reader t' (drop (i + 1) piece))
        unfolding placed piece_read
        goes_on =
            ap (piece_read p.reader t) (drop-cons piece i 0 below ∙ ap₂ (λ (c : ℕ) (n : ℕ). c ∷ drop n piece) (sym same) (sym (add-one i)))
            ∙ ap₂ (λ (x : Reader) (y : Box). prefixed step.printed (piece_read x y (drop (i + 1) piece)))
            (sym (ap (λ (x : Placed). x.reader) w.0)) (sym (ap (λ (x : Placed). x.box) w.0))

        pub feeding_step : Feeding r s piece out p' t' now' (i + 1)
        unfolding placed
        feeding_step =
            let last = piece_read p'.reader t' (drop (i + 1) piece) in
            record {
              printed = f.printed ++ step.printed;
              stands = replaced_next out now f.printed step.printed now' p.end f.stands f.end
                  (omega (arith, f.inside, behind, w.1, below)) (ap (λ (x : Placed). x.out) w.0);
              end = behind ∙ omega (arith, f.end, length-append f.printed step.printed);
              rest = f.rest ∙ ap (prefixed f.printed) goes_on
                  ∙ ap (printing last.reader last.box) (sym (append_assoc f.printed step.printed last.printed));
              within = omega (arith, below);
              inside = omega (arith, f.inside, w.1, below);
            }

  -- no room
  pub feeding_none : length out < length piece * most_printed → fed_of r None s out ≡ fed r s piece out
  unfolding fed
  feeding_none h =
      ap (λ (x : Placed). record { taken = false; placed = x }) (nothing_placed r s out)
      ∙ sym (rw (lt-leb (length piece * most_printed) (length out) h, fed))
