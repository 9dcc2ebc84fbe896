-- Marks: none at first, and one more after each. Assumes nothing.
use mathlib.Core.Path.{◌≡◌, refl, ap, sym, ◌∙◌}
use mathlib.Core.Bool.{Bool, true, ◌||◌}
use mathlib.Core.List.{List, [], ◌∷◌, any}
use Prim.Native.Nat.{ℕ, zero, suc, ◌+◌, ◌-◌, ◌*◌, ◌/◌, ◌%◌, ◌^◌, ◌≤◌, ◌<◌}
use native.Mathlib.Nat.{zero-div, div_self, div-eq_of_lt, mod-lt, div-add-mod, mod-eq_of_lt}
use native.Mathlib.Omega.{arith}
use borrow.Author.Tests.{eq-eqb, ne_eqb}
use lib.Bits.{bit_or, or_shr, or_mod, or_zero_r, shifted_even}
use lib.Dec.{eqb}
use lib.ListN.{length, get_or, set, length-set}
use lib.Pow.{pow_pos, pow-add, pow-lt, shl-shr}
use lib.Seq.{get_or-set_same, get_or-set_other}
use Rattle.octets.specs.Part.{repeated}
use Rattle.octets.proofs.RepeatedLaw.{repeated_length, repeated_at}
use Rattle.machine.proofs.CaseLaw.{same_or_not, below_or_not}
use Rattle.machine.proofs.ListedLaw.{any_none, any_cons}
use Rattle.recovery.specs.Marks.{bits_per_byte, byte_of, bit_of, is_marked, marked, Marks}

-- ---- bits

-- bit j of a byte
abbrev bit : ℕ → ℕ → ℕ
bit x j = x / 2 ^ j % 2

-- bit k set: it is 1, and the others are as they were
own_bit : (k : ℕ) → bit (2 ^ k) k ≡ 1
own_bit k = ap (λ (x : ℕ). x % 2) (div_self (pow_pos k))

other_bit : (k j : ℕ) → (j ≡ k → ⊥) → bit (2 ^ k) j ≡ 0
other_bit k j d = below_or_not j k lower higher
  where
    lower : j < k → bit (2 ^ k) j ≡ 0
    lower h =
        let n = k - suc j in
        let whole : k ≡ suc n + j = omega arith in
        ap (λ (i : ℕ). bit (2 ^ i) j) whole
        ∙ ap (λ (x : ℕ). bit x j) (pow-add 2 (suc n) j)
        ∙ ap (λ (x : ℕ). x % 2) (shl-shr (2 ^ suc n) j)
        ∙ (let once : 2 ^ suc n ≡ 1 * 2 ^ suc n = omega arith in ap (λ (x : ℕ). x % 2) once ∙ shifted_even 1 n)

    higher : k ≤ j → bit (2 ^ k) j ≡ 0
    higher h =
        let above : k < j = omega arith in
        ap (λ (x : ℕ). x % 2) (div-eq_of_lt (pow-lt above))

or_bit : (x y j : ℕ) → bit (bit_or x y) j ≡ bit_or (bit x j) (bit y j)
or_bit x y j = ap (λ (z : ℕ). z % 2) (or_shr x y j) ∙ or_mod (x / 2 ^ j) (y / 2 ^ j) 1

-- with a 1 it is 1
or_one : (x : ℕ) → x < 2 → bit_or x 1 ≡ 1
or_one zero h = refl
or_one (suc zero) h = refl
or_one (suc (suc n)) h = absurd (omega arith)

set_own : (x k : ℕ) → bit (bit_or x (2 ^ k)) k ≡ 1
set_own x k = or_bit x (2 ^ k) k ∙ ap (λ (z : ℕ). bit_or (bit x k) z) (own_bit k) ∙ or_one (bit x k) (mod-lt (x / 2 ^ k) (omega arith))

set_other : (x k j : ℕ) → (j ≡ k → ⊥) → bit (bit_or x (2 ^ k)) j ≡ bit x j
set_other x k j d = or_bit x (2 ^ k) j ∙ ap (λ (z : ℕ). bit_or (bit x j) z) (other_bit k j d) ∙ or_zero_r (bit x j)

-- ---- bytes

byte_within : (l : List ℕ) (a : ℕ) → a < bits_per_byte * length l → byte_of a < length l
byte_within l a h = omega (arith, div-add-mod a bits_per_byte)

-- a bit as the code makes it
pub mark_stored : (l : List ℕ) (a : ℕ) → set l (byte_of a) (bit_or (get_or l (byte_of a) 0) (1 * 2 ^ bit_of a % 256)) ≡ marked l a
unfolding marked
mark_stored l a =
    let small : 2 ^ bit_of a < 256 = pow-lt {j = 8} (mod-lt a (omega arith)) in
    let one : 1 * 2 ^ bit_of a ≡ 2 ^ bit_of a = omega arith in
    ap (λ (x : ℕ). set l (byte_of a) (bit_or (get_or l (byte_of a) 0) x)) (ap (λ (x : ℕ). x % 256) one ∙ mod-eq_of_lt small)

-- nothing is marked in zeros
pub none_marked : (n : ℕ) → Marks (repeated n 0) []
unfolding Marks is_marked
none_marked n a h =
    let l = repeated n 0 in
    let inside : byte_of a < n = omega (arith, byte_within l a h, repeated_length n 0) in
    ap (λ (x : ℕ). eqb (bit x (bit_of a)) 1) (repeated_at n 0 (byte_of a) inside)
    ∙ ap (λ (x : ℕ). eqb (x % 2) 1) (zero-div (2 ^ bit_of a))
    ∙ sym (any_none (eqb a))

module _ (l : List ℕ) (a : ℕ) (h : a < bits_per_byte * length l) where
  pub marked_length : length (marked l a) ≡ length l
  unfolding marked
  marked_length = length-set l (byte_of a) (bit_or (get_or l (byte_of a) 0) (2 ^ bit_of a))

  -- the block's own bit
  marked_own : is_marked (marked l a) a ≡ true
  unfolding is_marked marked
  marked_own =
      let x = get_or l (byte_of a) 0 in
      eq-eqb _ 1
      (ap (λ (y : ℕ). bit y (bit_of a)) (get_or-set_same l (byte_of a) (bit_or x (2 ^ bit_of a)) 0 (byte_within l a h)) ∙ set_own x (bit_of a))

  -- another block's
  marked_other : (b : ℕ) → (b ≡ a → ⊥) → is_marked (marked l a) b ≡ is_marked l b
  unfolding is_marked marked
  marked_other b d = ap (λ (x : ℕ). eqb x 1) (same_or_not (byte_of b) (byte_of a) same other)
    where
      x : ℕ
      x = get_or l (byte_of a) 0

      new : ℕ
      new = bit_or x (2 ^ bit_of a)

      same : byte_of b ≡ byte_of a → bit (get_or (set l (byte_of a) new) (byte_of b) 0) (bit_of b) ≡ bit (get_or l (byte_of b) 0) (bit_of b)
      same e =
          ap (λ (i : ℕ). bit (get_or (set l (byte_of a) new) i 0) (bit_of b)) e
          ∙ ap (λ (y : ℕ). bit y (bit_of b)) (get_or-set_same l (byte_of a) new 0 (byte_within l a h))
          ∙ set_other x (bit_of a) (bit_of b) (λ q. d (omega (arith, div-add-mod a bits_per_byte, div-add-mod b bits_per_byte)))
          ∙ ap (λ (i : ℕ). bit (get_or l i 0) (bit_of b)) (sym e)

      other : (byte_of b ≡ byte_of a → ⊥) → bit (get_or (set l (byte_of a) new) (byte_of b) 0) (bit_of b) ≡ bit (get_or l (byte_of b) 0) (bit_of b)
      other n = ap (λ (y : ℕ). bit y (bit_of b)) (get_or-set_other l (byte_of a) (byte_of b) new 0 n)

  -- one more block is marked
  pub one_marked : (walked : List ℕ) → Marks l walked → Marks (marked l a) (a ∷ walked)
  unfolding Marks
  one_marked walked m b k =
      let inside : b < bits_per_byte * length l = omega (arith, marked_length) in
      sym
      (any_cons (eqb b) a walked
      ∙ same_or_not b a
      (λ e. ap (λ (t : Bool). t || any walked (eqb b)) (eq-eqb b a e) ∙ sym (ap (is_marked (marked l a)) e ∙ marked_own))
      (λ d. ap (λ (t : Bool). t || any walked (eqb b)) (ne_eqb b a d) ∙ sym (marked_other b d ∙ m b inside)))
