-- Quotients and remainders by a power of two, as a shift and a mask give them: for every k, a >> k is a / 2 ^ k to the logic, and a & m is
-- bit_and a m. Assumes nothing.
use mathlib.Core.Path.{◌≡◌, ap, sym, ◌∙◌}
use Prim.Native.Nat.{ℕ, ◌-◌, ◌/◌, ◌%◌, ◌^◌}
use lib.Bits.{bit_and, and_mask}

-- n is 2 ^ k
module _ (k n : ℕ) (e : n ≡ 2 ^ k) where
  -- a shift right by k is the quotient by n
  pub shift_quotient : (a : ℕ) → a / 2 ^ k ≡ a / n
  shift_quotient a = ap (λ (m : ℕ). a / m) (sym e)

  -- a mask with n - 1 is the remainder
  pub mask_remainder : (a : ℕ) → bit_and a (n - 1) ≡ a % n
  mask_remainder a = ap (λ (m : ℕ). bit_and a (m - 1)) e ∙ and_mask a k ∙ ap (λ (m : ℕ). a % m) (sym e)
