-- Laws of numbers in bytes, over the width: both round trips, the digits' number and size, two runs of digits put together, and what
-- is read after a number is stored. Assumes nothing.
use mathlib.Core.Path.{◌≡◌, refl, ap, ap₂, sym, subst, ◌∙◌}
use mathlib.Core.Logic.{◌⊎◌}
use mathlib.Core.List.{List, [], ◌∷◌, ◌++◌}
use Prim.Native.Nat.{ℕ, zero, suc, ◌+◌, ◌*◌, ◌/◌, ◌%◌, ◌^◌, ◌≤◌, ◌<◌}
use native.Mathlib.Nat.{mod-eq_of_lt, zero-add, suc-add, mul_assoc, mul_comm, one-mul, mod-add-div, pow-suc, div-lt_iff_lt-mul, div-one, div-div-eq-div-mul}
use native.Mathlib.Numerals.{add-one, add-two, add-three}
use native.Mathlib.Omega.{arith}
use lib.Dec.{lit<}
use lib.Arith.{mod-mul}
use lib.ListN.{length, take, get_or, set}
use lib.Seq.{drop-cons}
use Rattle.octets.specs.Part.{AreBytes, part, replaced, repeated}
use Rattle.octets.specs.Number.{number, bytes, number_at, with_number}
use Rattle.octets.proofs.BelowLaw.{below_none, below_cons, below_head, below_tail, below_part, below_replaced}
use Rattle.octets.proofs.PartLaw.{part_length, part_add, part_length_min}
use Rattle.octets.proofs.ReplacedLaw.{replaced_sets, replaced_append, part_same, part_other}

pub bytes_length : (k n : ℕ) → length (bytes k n) ≡ k
unfolding bytes
bytes_length zero n = refl
bytes_length (suc k) n = ap suc (bytes_length k (n / 256))

pub bytes_are : (k n : ℕ) → AreBytes (bytes k n)
unfolding bytes
bytes_are zero n = below_none 256 (lit< tt)
bytes_are (suc k) n = below_cons 256 (n % 256) (bytes k (n / 256)) (omega arith) (bytes_are k (n / 256))

-- number, bytes, number: for a number that fits
pub number_bytes : (k n : ℕ) → n < 256 ^ k → number (bytes k n) ≡ n
unfolding number bytes
number_bytes zero n h = omega arith
number_bytes (suc k) n h =
    let small : n / 256 < 256 ^ k = (div-lt_iff_lt-mul (lit< tt)).1 (rw pow-suc at h) in
    ap (λ (x : ℕ). n % 256 + 256 * x) (number_bytes k (n / 256) small) ∙ mod-add-div n 256

-- bytes, number, bytes: for a list of bytes
pub bytes_number : (l : List ℕ) → AreBytes l → bytes (length l) (number l) ≡ l
unfolding number bytes
bytes_number [] h = refl
bytes_number (x ∷ l) h =
    let small : x < 256 = below_head 256 x l h in
    let digit : (x + 256 * number l) % 256 ≡ x = omega arith in
    let rest : (x + 256 * number l) / 256 ≡ number l = omega arith in
    ap₂ (λ (d r : ℕ). d ∷ bytes (length l) r) digit rest ∙ ap (λ (r : List ℕ). x ∷ r) (bytes_number l (below_tail 256 x l h))

-- a number of at most k digits
number_below : (k : ℕ) (l : List ℕ) → AreBytes l → length l ≤ k → number l < 256 ^ k
unfolding number
number_below zero [] h e = lit< tt
number_below zero (x ∷ l) h e = absurd (omega arith)
number_below (suc k) [] h e = omega (arith, number_below k [] h (omega arith), pow-suc 256 k)
number_below (suc k) (x ∷ l) h e =
    omega (arith, below_head 256 x l h, number_below k l (below_tail 256 x l h) (omega arith), pow-suc 256 k)

-- two runs of digits
pub number_append : (a b : List ℕ) → number (a ++ b) ≡ number a + 256 ^ length a * number b
unfolding number
number_append [] b = sym (zero-add _ ∙ one-mul (number b))
number_append (x ∷ a) b =
    let e : 256 ^ suc (length a) * number b ≡ 256 * (256 ^ length a * number b) =
    ap (λ (p : ℕ). p * number b) (pow-suc 256 (length a) ∙ mul_comm (256 ^ length a) 256) ∙ mul_assoc 256 (256 ^ length a) (number b) in
    omega (arith, number_append a b, e)

pub bytes_add : (j k n : ℕ) → bytes (j + k) n ≡ bytes j n ++ bytes k (n / 256 ^ j)
unfolding bytes
bytes_add zero k n = ap₂ bytes (zero-add k) (sym (div-one n))
bytes_add (suc j) k n =
    let e : n / 256 / 256 ^ j ≡ n / 256 ^ suc j =
    div-div-eq-div-mul n 256 (256 ^ j) ∙ ap (λ (p : ℕ). n / p) (mul_comm 256 (256 ^ j) ∙ sym (pow-suc 256 j)) in
    ap (λ (i : ℕ). bytes i n) (suc-add j k)
    ∙ ap (λ (r : List ℕ). n % 256 ∷ r) (bytes_add j k (n / 256) ∙ ap (λ (m : ℕ). bytes j (n / 256) ++ bytes k m) e)

pow_pos : (k : ℕ) → 0 < 256 ^ k
pow_pos zero = lit< tt
pow_pos (suc k) = omega (arith, pow_pos k, pow-suc 256 k)

-- digits past those that are kept do not show
pub bytes_mod : (k n : ℕ) → bytes k (n % 256 ^ k) ≡ bytes k n
unfolding bytes
bytes_mod zero n = refl
bytes_mod (suc k) n =
    let q : ℕ = n / 256 % 256 ^ k in
    let e : n % 256 ^ suc k ≡ q * 256 + n % 256 = ap (λ (p : ℕ). n % p) (pow-suc 256 k) ∙ mod-mul n (pow_pos k) (lit< tt) in
    let digit : (q * 256 + n % 256) % 256 ≡ n % 256 = omega arith in
    let rest : (q * 256 + n % 256) / 256 ≡ q = omega arith in
    ap (bytes (suc k)) e ∙ ap₂ (λ (d r : ℕ). d ∷ bytes k r) digit rest ∙ ap (λ (r : List ℕ). n % 256 ∷ r) (bytes_mod k (n / 256))

-- ---- a number at a place

pub with_number_are : (l : List ℕ) (at k n : ℕ) → AreBytes l → AreBytes (with_number l at k n)
unfolding with_number
with_number_are l at k n h = below_replaced 256 l at (bytes k n) h (bytes_are k n)

-- wherever it is read, also at the end of the list and past it
pub number_at_small : (l : List ℕ) (at k : ℕ) → AreBytes l → number_at l at k < 256 ^ k
unfolding number_at
number_at_small l at k h = number_below k (part l at k) (below_part 256 l at k h) (omega (arith, part_length_min l at k))

-- what is read at the place of a store, and at another
pub number_at_same : (l : List ℕ) (at k n : ℕ) → at + k ≤ length l → n < 256 ^ k → number_at (with_number l at k n) at k ≡ n
unfolding number_at with_number
number_at_same l at k n h s = ap number (part_same l at (bytes k n) k (bytes_length k n) h) ∙ number_bytes k n s

pub number_at_other : (l : List ℕ) (at k n f j : ℕ) → at + k ≤ length l → (f + j ≤ at) ⊎ (at + k ≤ f)
    → number_at (with_number l at k n) f j ≡ number_at l f j
unfolding number_at with_number
number_at_other l at k n f j h d =
    ap number
    (part_other l at (bytes k n) f j (omega (arith, bytes_length k n))
    (subst (λ (x : ℕ). (f + j ≤ at) ⊎ (at + x ≤ f)) (sym (bytes_length k n)) d))

-- zeros
number_zeros : (k : ℕ) → number (repeated k 0) ≡ 0
unfolding number repeated
number_zeros zero = refl
number_zeros (suc k) = omega (arith, number_zeros k)

pub number_at_zeros : (l : List ℕ) (at k : ℕ) → part l at k ≡ repeated k 0 → number_at l at k ≡ 0
unfolding number_at
number_at_zeros l at k e = ap number e ∙ number_zeros k

-- ---- a number of j + k bytes, in two

pub number_at_add : (l : List ℕ) (at j k : ℕ) → at + j ≤ length l
    → number_at l at (j + k) ≡ number_at l at j + 256 ^ j * number_at l (at + j) k
unfolding number_at
number_at_add l at j k h =
    ap number (part_add l at j k)
    ∙ number_append (part l at j) (part l (at + j) k)
    ∙ ap (λ (n : ℕ). number (part l at j) + 256 ^ n * number (part l (at + j) k)) (part_length l at j h)

pub with_number_add : (l : List ℕ) (at j k n : ℕ) → at + j + k ≤ length l
    → with_number (with_number l at j n) (at + j) k (n / 256 ^ j) ≡ with_number l at (j + k) n
unfolding with_number
with_number_add l at j k n h =
    ap (λ (p : ℕ). replaced (replaced l at (bytes j n)) (at + p) (bytes k (n / 256 ^ j))) (sym (bytes_length j n))
    ∙ replaced_append l at (bytes j n) (bytes k (n / 256 ^ j)) (omega (arith, bytes_length j n, bytes_length k (n / 256 ^ j)))
    ∙ ap (λ (r : List ℕ). replaced l at r) (sym (bytes_add j k n))

-- a number of eight bytes, as two of four
pub number_of_eight : (l : List ℕ) (at a b : ℕ) → at + 8 ≤ length l → a ≡ number_at l at 4 → b ≡ number_at l (at + 4) 4
    → a + b * 4294967296 ≡ number_at l at 8
number_of_eight l at a b h ea eb = rw (ea, eb) (omega (arith, number_at_add l at 4 4 (omega arith)))

pub stored_eight : (l m r : List ℕ) (at n : ℕ) → at + 8 ≤ length l → m ≡ with_number l at 4 (n % 4294967296)
    → r ≡ with_number m (at + 4) 4 (n / 4294967296) → r ≡ with_number l at 8 n
unfolding with_number
stored_eight l m r at n h em er =
    let low : with_number l at 4 (n % 4294967296) ≡ with_number l at 4 n = ap (λ (d : List ℕ). replaced l at d) (bytes_mod 4 n) in
    er ∙ ap (λ (x : List ℕ). with_number x (at + 4) 4 (n / 4294967296)) (em ∙ low) ∙ with_number_add l at 4 4 n (omega arith)

-- the first byte, and the rest
number_at_cons : (l : List ℕ) (at k : ℕ) → at < length l → number_at l at (suc k) ≡ get_or l at 0 + 256 * number_at l (suc at) k
unfolding number_at number part
number_at_cons l at k h = ap (λ (r : List ℕ). number (take (suc k) r)) (drop-cons l at 0 h)

number_at_none : (l : List ℕ) (at : ℕ) → ◌≡◌ {A = ℕ} (number_at l at 0) 0
unfolding number_at number part
number_at_none l at = refl

-- one byte, read and stored
pub number_of_one : (l : List ℕ) (at : ℕ) → at + 1 ≤ length l → get_or l at 0 ≡ number_at l at 1
number_of_one l at h = omega (arith, number_at_cons l at 0 (omega arith), number_at_none l (suc at))

pub stored_one : (l : List ℕ) (at n : ℕ) → at + 1 ≤ length l → n < 256 → set l at n ≡ with_number l at 1 n
unfolding with_number bytes
stored_one l at n h s = ap (set l at) (sym (mod-eq_of_lt s)) ∙ replaced_sets l at (bytes 1 n) h

pub with_number_byte : (l : List ℕ) (at n : ℕ) → n < 256 → with_number l at 1 n ≡ replaced l at (n ∷ [])
unfolding with_number bytes
with_number_byte l at n s = ap (λ (b : ℕ). replaced l at (b ∷ [])) (mod-eq_of_lt s)

-- four bytes, read one by one
pub number_of_four : (l : List ℕ) (at a b c d : ℕ) → at + 4 ≤ length l
    → a ≡ get_or l at 0 → b ≡ get_or l (at + 1) 0 → c ≡ get_or l (at + 2) 0 → d ≡ get_or l (at + 3) 0
    → a + b * 256 + c * 65536 + d * 16777216 ≡ number_at l at 4
number_of_four l at a b c d h ea eb ec ed =
    rw (ea, eb, ec, ed, add-one, add-two, add-three)
    (omega (
      arith,
      number_at_cons l at 3 (omega arith),
      number_at_cons l (suc at) 2 (omega arith),
      number_at_cons l (suc (suc at)) 1 (omega arith),
      number_at_cons l (suc (suc (suc at))) 0 (omega arith),
      number_at_none l (suc (suc (suc (suc at)))),
    ))

-- and stored one by one
