-- Signed numbers of 64 bits and their bits: both round trips, and what casts of a number and of its complement give. Assumes nothing.
use mathlib.Core.Path.{◌≡◌, ap, sym, ◌∙◌}
use mathlib.Core.Bool.{true, false, false≢true}
use Prim.Native.Nat.{ℕ, suc, ◌-◌, ◌^◌, ◌<◌}
use native.Mathlib.Omega.{arith}
use borrow.Author.Tests.{ltb-true}
use lib.Dec.{T}
use lib.IntN.{ℤ, pos, negsuc, nat_abs}
use lib.Signed.{lt_z, non_neg}
use mir.Syntax.{w64}
use mir.Val.{Fits, SFits, of_z, to_z}
use mir.ValLaws.{to_z_pos, to_z-of_z}
use Rattle.octets.specs.Signed.{twos, signed}

-- number, bits, number; bits, number, bits
pub signed_twos : (z : ℤ) → SFits w64 z → signed (twos z) ≡ z
signed_twos z h = to_z-of_z w64 z h

-- the complement of -1 - n is n
flipped : (n : ℕ) → n < 2 ^ 63 → to_z w64 (18446744073709551615 - of_z w64 (negsuc n)) ≡ pos n
flipped n h =
    let e : 18446744073709551615 - (18446744073709551616 - suc n) ≡ n = omega arith in
    ap (to_z w64) e ∙ to_z_pos w64 n h

-- what is known of a negative number, and of one that is not
pub record Negative (z : ℤ) : Type 0 where
  pub casts : T (non_neg (to_z w64 (18446744073709551615 - of_z w64 z))) × Fits w64 (nat_abs (to_z w64 (18446744073709551615 - of_z w64 z)))
  pub back : 18446744073709551615 - nat_abs (to_z w64 (18446744073709551615 - of_z w64 z)) ≡ twos z

pub negative : (z : ℤ) → SFits w64 z → lt_z (to_z w64 (of_z w64 z)) (pos 0) ≡ true → Negative z
negative (pos n) h t = absurd (omega (arith, ltb-true n 0 (rw (to_z_pos w64 n h.sfits) at t)))
negative (negsuc n) h t =
    let small : n < 2 ^ 63 = h.sfits in
    record {
      casts = rw (flipped n small) (tt, record { fits = omega arith });
      back = rw (flipped n small) (omega arith);
    }

pub record NotNegative (z : ℤ) : Type 0 where
  pub casts : T (non_neg (to_z w64 (of_z w64 z))) × Fits w64 (nat_abs (to_z w64 (of_z w64 z)))
  pub back : nat_abs (to_z w64 (of_z w64 z)) ≡ twos z

pub not_negative : (z : ℤ) → SFits w64 z → lt_z (to_z w64 (of_z w64 z)) (pos 0) ≡ false → NotNegative z
not_negative (pos n) h t =
    let small : n < 2 ^ 63 = h.sfits in
    record { casts = rw (to_z_pos w64 n small) (tt, record { fits = omega arith }); back = rw (to_z_pos w64 n small) }
not_negative (negsuc n) h t = absurd (false≢true (sym (rw (to_z-of_z w64 (negsuc n) h) at t)))
