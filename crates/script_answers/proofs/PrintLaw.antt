-- A line as the code prints it: text by text, each behind the one before. Assumes nothing.
use mathlib.Core.Path.{◌≡◌, ap, ap₂, ◌∙◌}
use mathlib.Core.List.{List, [], ◌∷◌, ◌++◌, append_assoc}
use Prim.Native.Nat.{ℕ, ◌+◌, ◌*◌, ◌≤◌, ◌<◌}
use native.Mathlib.Omega.{arith}
use lib.ListN.{length, set, length-append}
use lib.IntN.{ℤ}
use mir.Syntax.{w64}
use mir.Val.{SFits, of_z, to_z}
use mir.ValLaws.{to_z-of_z}
use Rattle.octets.specs.Part.{replaced}
use Rattle.octets.proofs.ReplacedLaw.{replaced_length, replaced_append, replaced_sets}
use Rattle.decimal.specs.Decimal.{decimal, signed_decimal}
use Rattle.decimal.proofs.DecimalLaw.{decimal_size_64, signed_size}
use Rattle.script_lines.specs.declared.Values.{Values}
use Rattle.script_lines.specs.Syntax.{space, newline}
use Rattle.script_answers.specs.declared.Shown.{Shown}
use Rattle.script_answers.specs.Answer.{spaced, most_spaced, line_shown, most_printed}

-- m is l with a text from place at on, and here is the place behind it
abbrev Printed : List ℕ → ℕ → List ℕ → List ℕ → ℕ → Type 0
Printed l at text m here = (m ≡ replaced l at text) × (here ≡ at + length text)

-- a text behind it
behind : (l : List ℕ) (at : ℕ) (text m : List ℕ) (here : ℕ) (new r : List ℕ) (end : ℕ) → Printed l at text m here
    → here + length new ≤ length l → Printed m here new r end → Printed l at (text ++ new) r end
behind l at text m here new r end p h q = (
  q.0 ∙ ap₂ (λ (x : List ℕ) (k : ℕ). replaced x k new) p.0 p.1 ∙ replaced_append l at text new (omega (arith, p.1)),
  omega (arith, p.1, q.1, length-append text new),
)

-- a byte behind it
record Byte (l : List ℕ) (at : ℕ) (text m : List ℕ) (here b : ℕ) : Type 0 where
  pub inside : here < length m
  pub size : length m ≡ length l
  pub put : Printed l at (text ++ (b ∷ [])) (set m here b) (here + 1)

byte_behind : (l : List ℕ) (at : ℕ) (text m : List ℕ) (here b : ℕ) → Printed l at text m here → here < length l
    → Byte l at text m here b
byte_behind l at text m here b p h =
    let size : length m ≡ length l = ap length p.0 ∙ replaced_length l at text (omega (arith, p.1)) in
    record {
      inside = omega arith;
      size = size;
      put = behind l at text m here (b ∷ []) (set m here b) (here + 1) p (omega arith) (replaced_sets m here (b ∷ []) (omega arith), omega arith);
    }

-- ---- a number and a space

pub record Spaced (l : List ℕ) (at n : ℕ) (m : List ℕ) (end : ℕ) : Type 0 where
  pub inside : end < length m
  pub within : end < at + most_spaced
  pub put : Printed l at (spaced n) (set m end space) (end + 1)

pub spaced_put : (l : List ℕ) (at n : ℕ) (m : List ℕ) (end : ℕ) → n < 18446744073709551616 → at + most_spaced ≤ length l
    → (m ≡ replaced l at (decimal n)) × (end ≡ at + length (decimal n)) → Spaced l at n m end
spaced_put l at n m end f h e =
    let within : end < at + most_spaced = omega (arith, e.1, decimal_size_64 n f) in
    let b = byte_behind l at (decimal n) m end space e (omega arith) in
    record { inside = b.inside; within = within; put = b.put }

-- ---- the line

-- what a number and a space leave
abbrev Next : List ℕ → ℕ → ℕ → List ℕ → ℕ → Type 0
Next l at n m end = (m ≡ replaced l at (spaced n)) × ((end ≡ at + length (spaced n)) × (end ≤ at + most_spaced))

-- the time left as the code passes it on
abbrev passed : ℤ → ℤ
passed z = to_z w64 (of_z w64 z)

grouped : (a b c d e f g : List ℕ) → (((((a ++ b) ++ c) ++ d) ++ e) ++ f) ++ g ≡ a ++ (b ++ (c ++ (d ++ (e ++ (f ++ g)))))
grouped a b c d e f g = simp append_assoc

-- the first five numbers
pub record Five (l : List ℕ) (at : ℕ) (v : Values) (s : Shown) (m : List ℕ) (end : ℕ) : Type 0 where
  pub size : length m ≡ length l
  pub within : end ≤ at + 5 * most_spaced
  pub put : Printed l at ((((spaced v.kind ++ spaced v.block) ++ spaced v.time) ++ spaced s.number) ++ spaced s.state) m end

pub record Line (l : List ℕ) (at : ℕ) (v : Values) (s : Shown) (m : List ℕ) (end : ℕ) : Type 0 where
  pub inside : end < length m
  pub size : length m ≡ length l
  pub within : end + 1 ≤ at + most_printed
  pub put : Printed l at (line_shown v s) (set m end newline) (end + 1)

module _ (l : List ℕ) (at : ℕ) (v : Values) (s : Shown) (h : at + most_printed ≤ length l) where
  pub five_put : (m₁ m₂ m₃ m₄ m₅ : List ℕ) (i₁ i₂ i₃ i₄ i₅ : ℕ) → Next l at v.kind m₁ i₁ → Next m₁ i₁ v.block m₂ i₂
      → Next m₂ i₂ v.time m₃ i₃ → Next m₃ i₃ s.number m₄ i₄ → Next m₄ i₄ s.state m₅ i₅ → Five l at v s m₅ i₅
  five_put m₁ m₂ m₃ m₄ m₅ i₁ i₂ i₃ i₄ i₅ e₁ e₂ e₃ e₄ e₅ =
      let p₁ : Printed l at (spaced v.kind) m₁ i₁ = (e₁.0, e₁.1.0) in
      let p₂ = behind l at _ m₁ i₁ (spaced v.block) m₂ i₂ p₁ (omega arith) (e₂.0, e₂.1.0) in
      let p₃ = behind l at _ m₂ i₂ (spaced v.time) m₃ i₃ p₂ (omega arith) (e₃.0, e₃.1.0) in
      let p₄ = behind l at _ m₃ i₃ (spaced s.number) m₄ i₄ p₃ (omega arith) (e₄.0, e₄.1.0) in
      let p₅ = behind l at _ m₄ i₄ (spaced s.state) m₅ i₅ p₄ (omega arith) (e₅.0, e₅.1.0) in
      record { size = ap length p₅.0 ∙ replaced_length l at _ (omega arith); within = omega arith; put = p₅ }

  module _ (m : List ℕ) (i : ℕ) (p : Five l at v s m i) (f : SFits w64 s.left) where
    pub left_within : i + length (signed_decimal (passed s.left)) ≤ length m
    left_within = rw (to_z-of_z w64 s.left f) (omega (arith, signed_size s.left f, p.size, p.within))

    pub line_put : (n : List ℕ) (end : ℕ) → Printed m i (signed_decimal (passed s.left)) n end → Line l at v s n end
    unfolding line_shown
    line_put n end e =
        let e' : Printed m i (signed_decimal s.left) n end = rw (to_z-of_z w64 s.left f) at e in
        let within : end + 1 ≤ at + most_printed = omega (arith, signed_size s.left f, e'.1, p.within) in
        let q = behind l at _ m i (signed_decimal s.left) n end p.put (omega (arith, e'.1)) e' in
        let b = byte_behind l at _ n end newline q (omega arith) in
        let text = grouped (spaced v.kind) (spaced v.block) (spaced v.time) (spaced s.number) (spaced s.state)
        (signed_decimal s.left) (newline ∷ []) in
        record {
          inside = b.inside;
          size = b.size;
          within = within;
          put = (b.put.0 ∙ ap (replaced l at) text, b.put.1 ∙ ap (λ (x : List ℕ). at + length x) text);
        }

  -- from number to number, and the time left behind them
  pub all_put : (m₁ m₂ m₃ m₄ m₅ n : List ℕ) (i₁ i₂ i₃ i₄ i₅ end : ℕ) → Next l at v.kind m₁ i₁ → Next m₁ i₁ v.block m₂ i₂
      → Next m₂ i₂ v.time m₃ i₃ → Next m₃ i₃ s.number m₄ i₄ → Next m₄ i₄ s.state m₅ i₅ → SFits w64 s.left
      → Printed m₅ i₅ (signed_decimal (passed s.left)) n end → Line l at v s n end
  all_put m₁ m₂ m₃ m₄ m₅ n i₁ i₂ i₃ i₄ i₅ end e₁ e₂ e₃ e₄ e₅ f e =
      line_put m₅ i₅ (five_put m₁ m₂ m₃ m₄ m₅ i₁ i₂ i₃ i₄ i₅ e₁ e₂ e₃ e₄ e₅) f n end e
