-- Laws of the stores that put a number's text into a list: one digit, a digit behind the others, and a sign before them. Assumes nothing.
use mathlib.Core.Path.{◌≡◌, ap, ap₂, sym, ◌∙◌}
use mathlib.Core.Bool.{true, false, false≢true}
use mathlib.Core.List.{List, [], ◌∷◌}
use Prim.Native.Nat.{ℕ, ◌+◌, ◌-◌, ◌/◌, ◌%◌, ◌≤◌, ◌<◌}
use native.Mathlib.Omega.{arith}
use borrow.Author.Tests.{ltb-true}
use lib.ListN.{length, set}
use lib.IntN.{ℤ, pos, negsuc, nat_abs}
use lib.Signed.{lt_z}
use mir.Syntax.{w64}
use mir.Val.{Fits, SFits, of_z, to_z}
use mir.ValLaws.{to_z_pos, to_z-of_z}
use Rattle.octets.specs.Part.{replaced}
use Rattle.octets.proofs.ReplacedLaw.{replaced_length, replaced_sets, replaced_append}
use Rattle.octets.proofs.SignedLaw.{Negative, NotNegative}
use Rattle.decimal.specs.Decimal.{zero_digit, minus, decimal, signed_decimal}
use Rattle.decimal.proofs.DecimalLaw.{decimal_one, decimal_more, decimal_longer, decimal_some}

-- ---- digits

-- a number of one digit
pub put_one : (l : List ℕ) (at n : ℕ) → n < 10 → at + length (decimal n) ≤ length l → set l at (zero_digit + n) ≡ replaced l at (decimal n)
put_one l at n s h =
    let e : decimal n ≡ (zero_digit + n) ∷ [] = decimal_one n s in
    replaced_sets l at ((zero_digit + n) ∷ []) (rw e at h) ∙ ap (replaced l at) (sym e)

pub end_one : (n : ℕ) → n < 10 → length (decimal n) ≡ 1
end_one n s = ap length (decimal_one n s)

-- the last digit of more: m has the others, and end is the place behind them
pub record Rest (l : List ℕ) (at n : ℕ) (m : List ℕ) (end : ℕ) : Type 0 where
  pub inside : end < length m
  pub fits : end + 1 ≤ length l
  pub put : (set m end (zero_digit + n % 10) ≡ replaced l at (decimal n)) × (end + 1 ≡ at + length (decimal n))

pub put_more : (l : List ℕ) (at n : ℕ) (m : List ℕ) (end : ℕ) → 10 ≤ n → at + length (decimal n) ≤ length l
    → (m ≡ replaced l at (decimal (n / 10))) × (end ≡ at + length (decimal (n / 10))) → Rest l at n m end
put_more l at n m end s h e =
    let d : List ℕ = (zero_digit + n % 10) ∷ [] in
    let size : length m ≡ length l = ap length e.0 ∙ replaced_length l at (decimal (n / 10)) (omega (arith, decimal_longer n s)) in
    record {
      inside = omega (arith, decimal_longer n s, e.1);
      fits = omega (arith, decimal_longer n s, e.1);
      put = (
        replaced_sets m end d (omega (arith, decimal_longer n s, e.1))
            ∙ ap₂ (λ (x : List ℕ) (k : ℕ). replaced x k d) e.0 e.1
            ∙ replaced_append l at (decimal (n / 10)) d (omega (arith, decimal_longer n s))
            ∙ ap (replaced l at) (sym (decimal_more n s)),
        omega (arith, decimal_longer n s, e.1),
      );
    }

pub ruleset put_steps = (decimal_some, decimal_longer, put_one, end_one, put_more)

-- ---- a sign

-- z's complement, which is its magnitude less 1 where z is negative
abbrev complement : ℤ → ℕ
complement z = nat_abs (to_z w64 (18446744073709551615 - of_z w64 z))

pub record Signed (z : ℤ) : Type 0 where
  pub fits : Fits w64 (complement z + 1)
  pub text : signed_decimal z ≡ minus ∷ decimal (complement z + 1)

pub negative_text : (z : ℤ) → SFits w64 z → lt_z (to_z w64 (of_z w64 z)) (pos 0) ≡ true → Negative z → Signed z
unfolding signed_decimal
negative_text (pos n) h t k = absurd (omega (arith, ltb-true n 0 (rw (to_z_pos w64 n h.sfits) at t)))
negative_text (negsuc n) h t k =
    let e : complement (negsuc n) ≡ n = omega (arith, k.back, k.casts.1.fits, h.sfits) in
    record {
      fits = record { fits = omega (arith, h.sfits) };
      text = ap (λ (x : ℕ). minus ∷ decimal (x + 1)) (sym e);
    }

pub record Unsigned (z : ℤ) : Type 0 where
  pub text : signed_decimal z ≡ decimal (nat_abs (to_z w64 (of_z w64 z)))

pub unsigned_text : (z : ℤ) → SFits w64 z → lt_z (to_z w64 (of_z w64 z)) (pos 0) ≡ false → NotNegative z → Unsigned z
unfolding signed_decimal
unsigned_text (pos n) h t k = record { text = ap decimal (sym k.back) }
unsigned_text (negsuc n) h t k = absurd (false≢true (sym (rw (to_z-of_z w64 (negsuc n) h) at t)))

-- the sign and the digits behind it
pub put_sign : (l : List ℕ) (at b : ℕ) (text m : List ℕ) (end : ℕ) → at + length (b ∷ text) ≤ length l
    → (m ≡ replaced (set l at b) (at + 1) text) × (end ≡ at + 1 + length text)
    → (m ≡ replaced l at (b ∷ text)) × (end ≡ at + length (b ∷ text))
put_sign l at b text m end h e = (
  e.0
      ∙ ap (λ (x : List ℕ). replaced x (at + 1) text) (replaced_sets l at (b ∷ []) (omega arith))
      ∙ replaced_append l at (b ∷ []) text (omega arith),
  omega (arith, e.1),
)
