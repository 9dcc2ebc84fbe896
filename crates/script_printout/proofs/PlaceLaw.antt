-- Laws of what is printed into a buffer: nothing, a text, and one place after the other. Assumes nothing.
use mathlib.Core.Path.{◌≡◌, refl, sym, ◌∙◌}
use mathlib.Core.List.{List, []}
use Prim.Native.Nat.{ℕ, ◌+◌, ◌≤◌}
use native.Mathlib.Nat.{add-zero}
use lib.ListN.{length}
use Rattle.octets.specs.Part.{replaced}
use Rattle.octets.proofs.ReplacedLaw.{replaced_none}
use Rattle.machine.specs.Command.{Box}
use Rattle.script_answers.specs.Answer.{most_printed}
use Rattle.script_printout.specs.declared.Reader.{Reader}
use Rattle.script_printout.specs.declared.Progress.{Progress}
use Rattle.script_printout.specs.Reader.{Printing, printing, placed_of, placed, placed_unaltered}

-- a text is printed
pub placed_text : (p : Progress) (r : Reader) (s : Box) (text out out' : List ℕ) (at : ℕ) → p.reader ≡ r → out' ≡ replaced out at text
    → p.end ≡ at + length text → placed_of p s out' ≡ placed out at (printing r s text)
unfolding placed
placed_text p r s text out out' at e f g = cc

-- nothing is
pub placed_none : (p : Progress) (r : Reader) (s : Box) (out : List ℕ) (at : ℕ) → p.reader ≡ r → p.end ≡ at
    → placed_of p s out ≡ placed out at (printing r s [])
placed_none p r s out at e f = placed_text p r s [] out out at e (sym (replaced_none out at)) (f ∙ sym (add-zero at))

-- nothing at the start of a buffer leaves it as it is
pub nothing_placed : (r : Reader) (s : Box) (out : List ℕ) → placed_unaltered r s out ≡ placed out 0 (printing r s [])
nothing_placed r s out = placed_none (record { reader = r; end = 0 }) r s out 0 refl refl

-- what a step prints on the box of a call, and that it is no more than a line
abbrev pub PrintsOn : Printing → List ℕ → ℕ → Progress → Box → List ℕ → Type 0
PrintsOn q out at p s out' = (placed_of p s out' ≡ placed out at q) × (p.end ≤ at + most_printed)
