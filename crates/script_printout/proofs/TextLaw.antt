-- Laws of the fixed texts: their lengths, the header's bytes, and the stores that put the heading and the line that names a bad one.
-- Assumes nothing.
use mathlib.Core.Path.{◌≡◌, refl, ap, ap₂, ◌∙◌}
use mathlib.Core.List.{List, [], ◌∷◌, ◌++◌, append_assoc}
use Prim.Native.Nat.{ℕ, ◌+◌, ◌≤◌, ◌<◌}
use native.Mathlib.Omega.{arith}
use lib.ListN.{length, length-append}
use Rattle.octets.specs.Part.{replaced}
use Rattle.octets.proofs.ReplacedLaw.{replaced_append}
use Rattle.decimal.specs.Decimal.{decimal}
use Rattle.decimal.proofs.DecimalLaw.{decimal_size_64}
use Rattle.script_lines.specs.Syntax.{newline}
use Rattle.script_answers.specs.Answer.{most_printed}
use Rattle.script_printout.specs.Printout.{header, heading, bad, bad_line}

-- ---- lengths

pub header_length : length header ≡ 20
unfolding header
header_length = refl

pub heading_length : length heading ≡ 33
unfolding heading
heading_length = refl

pub bad_length_lem : length bad ≡ 9
unfolding bad
bad_length_lem = refl

pub bad_line_length : (n : ℕ) → length (bad_line n) ≡ 9 + length (decimal n) + 1
unfolding bad_line
bad_line_length n = omega (arith, bad_length_lem, length-append bad (decimal n ++ (newline ∷ [])), length-append (decimal n) (newline ∷ []))

-- each fits where a line is printed
pub heading_size : length heading ≤ most_printed
heading_size = omega (arith, heading_length)

pub bad_line_size : (n : ℕ) → n < 18446744073709551616 → length (bad_line n) ≤ most_printed
bad_line_size n h = omega (arith, bad_line_length n, decimal_size_64 n h)

-- ---- stores

-- the text, the number behind it, and the line end behind both
pub bad_line_put : (l : List ℕ) (at n : ℕ) (k m r : List ℕ) (i j end : ℕ) → at + length (bad_line n) ≤ length l
    → (k ≡ replaced l at bad) × (i ≡ at + length bad)
    → (m ≡ replaced k i (decimal n)) × (j ≡ i + length (decimal n))
    → (r ≡ replaced m j (newline ∷ [])) × (end ≡ j + 1)
    → (r ≡ replaced l at (bad_line n)) × (end ≡ at + length (bad_line n))
unfolding bad_line
bad_line_put l at n k m r i j end h e f g =
    let text : List ℕ = bad ++ decimal n in
    let long : length text ≡ length bad + length (decimal n) = length-append bad (decimal n) in
    let size : length (bad_line n) ≡ 9 + length (decimal n) + 1 = bad_line_length n in
    let nine : length bad ≡ 9 = bad_length_lem in
    let before : m ≡ replaced l at text =
    f.0 ∙ ap₂ (λ (x : List ℕ) (p : ℕ). replaced x p (decimal n)) e.0 e.1 ∙ replaced_append l at bad (decimal n) (omega arith) in
    let place : j ≡ at + length text = omega (arith, e.1, f.1) in (
      g.0
          ∙ ap₂ (λ (x : List ℕ) (p : ℕ). replaced x p (newline ∷ [])) before place
          ∙ replaced_append l at text (newline ∷ []) (omega arith)
          ∙ ap (replaced l at) (append_assoc bad (decimal n) (newline ∷ [])),
      omega (arith, size),
    )
