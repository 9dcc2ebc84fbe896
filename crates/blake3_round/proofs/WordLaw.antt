-- Laws of words of 32 bits: a rotation is two shifts put together, and gives a word. Assumes nothing.
use Rattle.std.proofs.Common.{◌≡◌, ℕ, ◌+◌, ◌-◌, ◌*◌, ◌/◌, ◌%◌, ◌^◌, ◌<◌, ap, ◌∙◌, subst, add-zero, add_comm, arith, shr_lt}
use native.Mathlib.Nat.{mul-mod_left}
use lib.Bits.{bit_or, or_shifted_r}
use lib.Pow.{mod-pow-add, shl-shr}
use Rattle.blake3_round.specs.Round as R

-- x shifted up by k at j + k bits is the low j bits of x, k places up
shl_low : (x j k : ℕ) → (x * 2 ^ k) % 2 ^ (j + k) ≡ (x % 2 ^ j) * 2 ^ k
shl_low x j k = rw (mod-pow-add, shl-shr, mul-mod_left) (add-zero _)

pub rotr_or : (x n : ℕ) → n < 32 → x < 2 ^ 32 → bit_or (x / 2 ^ n) ((x * 2 ^ (32 - n)) % 2 ^ 32) ≡ R.rotr x n
unfolding R.rotr
rotr_or x n hn hx =
    let up : 32 ≡ n + (32 - n) = omega arith in
    let down : 32 ≡ (32 - n) + n = omega arith in
    let low : (x * 2 ^ (32 - n)) % 2 ^ 32 ≡ (x % 2 ^ n) * 2 ^ (32 - n) =
    ap (λ (z : ℕ). (x * 2 ^ (32 - n)) % 2 ^ z) up ∙ shl_low x n (32 - n) in
    let high : x / 2 ^ n < 2 ^ (32 - n) = shr_lt (32 - n) n (subst (λ (z : ℕ). x < 2 ^ z) down hx) in
    ap (bit_or (x / 2 ^ n)) low ∙ or_shifted_r (x % 2 ^ n) (32 - n) (x / 2 ^ n) high ∙ add_comm _ _
