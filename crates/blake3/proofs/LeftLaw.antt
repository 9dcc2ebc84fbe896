-- The left side of a split: how a logarithm finds it, and that it is the largest power of two of whole chunks. Assumes nothing.
use Prim.Native.Nat.{ℕ, zero, suc, ◌+◌, ◌-◌, ◌*◌, ◌%◌, ◌^◌, ◌<◌, ◌≤◌}
use mathlib.Core.Path.{◌≡◌, refl, ap, sym, subst, ◌∙◌}
use mathlib.Core.Logic.{⊎_elim}
use native.Mathlib.Decide.{dec_le}
use native.Mathlib.Nat.{pow-suc, eq-or-lt_of_le, lt_of_not-le}
use native.Mathlib.Omega.{arith}
use borrow.Author.Tests.{lt-ltb, le-ltb}
use lib.Dec.{lit<}
use lib.Pow.{pow-add, pow_mono, pow_pos}
use Rattle.blake3.specs.Blake3 as B

-- a case for each side of a bound
pub split : {A : Type 0} (a b : ℕ) → (a ≤ b → A) → (b < a → A) → A
split a b f g = elim (dec_le a b) [ yes h ↦ f h | no h ↦ g (lt_of_not-le h) ]

below_pow : (n : ℕ) → n < 2 ^ n
below_pow zero = lit< tt
below_pow (suc n) = omega (arith, below_pow n, pow-suc 2 n)

-- a power that is below n, and whose double is not, is the largest
largest_is : (k n j : ℕ) → j ≤ k → B.chunk_size * 2 ^ j < n → n ≤ B.chunk_size * 2 ^ j + B.chunk_size * 2 ^ j → B.largest k n ≡ B.chunk_size * 2 ^ j
unfolding B.largest
largest_is zero n j h lo hi =
    let e : j ≡ 0 = omega arith in
    rw e
largest_is (suc k) n j h lo hi =
    ⊎_elim
    (λ e.
    rw (B.largest, lt-ltb (B.chunk_size * 2 ^ suc k) n (subst (λ (z : ℕ). B.chunk_size * 2 ^ z < n) e lo)) (ap (λ (z : ℕ). B.chunk_size * 2 ^ z) (sym e)))
    (λ l.
    let m : 2 ^ suc j ≤ 2 ^ suc k = pow_mono l in
    rw (B.largest, le-ltb (B.chunk_size * 2 ^ suc k) n (omega (arith, pow-suc 2 j))) (largest_is k n j (omega arith) lo hi))
    (eq-or-lt_of_le h)

-- the largest power of two below n
largest_below : (n k : ℕ) → B.chunk_size < n → 2 ^ k ≤ n - 1 → n - 1 < 2 * 2 ^ k → 2 ^ k ≡ B.left_size n
unfolding B.left_size
largest_below n k h lo hi =
    split 10 k
    (λ b.
    let j : ℕ = k - 10 in
    let e : k ≡ 10 + j = omega arith in
    let power : 2 ^ k ≡ B.chunk_size * 2 ^ j = ap (λ (i : ℕ). 2 ^ i) e ∙ pow-add 2 10 j in
    let few : j < 2 ^ j = below_pow j in
    power ∙ sym (largest_is n n j (omega arith) (omega arith) (omega arith)))
    (λ b.
    let m : 2 ^ k ≤ 2 ^ 9 = pow_mono {i = k} {j = 9} (omega arith) in
    absurd (omega arith))

-- it is a power of whole chunks, and no power below n is larger
pub largest_power : (k n : ℕ) → (j : ℕ) × (B.largest k n ≡ B.chunk_size * 2 ^ j)
unfolding B.largest
largest_power zero n = (0, refl)
largest_power (suc k) n =
    split n (B.chunk_size * 2 ^ suc k)
    (λ h. ((largest_power k n).0, rw (B.largest, le-ltb (B.chunk_size * 2 ^ suc k) n h) (largest_power k n).1))
    (λ h. (suc k, rw (B.largest, lt-ltb (B.chunk_size * 2 ^ suc k) n h)))

largest_ge : (k n : ℕ) → B.chunk_size ≤ B.largest k n
largest_ge k n =
    let p = largest_power k n in
    omega (arith, p.1, pow_pos p.0)

pub largest_lt : (k n : ℕ) → B.chunk_size < n → B.largest k n < n
unfolding B.largest
largest_lt zero n l = l
largest_lt (suc k) n l =
    split n (B.chunk_size * 2 ^ suc k)
    (λ h. rw (B.largest, le-ltb (B.chunk_size * 2 ^ suc k) n h) (largest_lt k n l))
    (λ h. rw (B.largest, lt-ltb (B.chunk_size * 2 ^ suc k) n h) h)

pub largest_most : (k n j : ℕ) → j ≤ k → B.chunk_size * 2 ^ j < n → B.chunk_size * 2 ^ j ≤ B.largest k n
unfolding B.largest
largest_most zero n j h l =
    let e : j ≡ 0 = omega arith in
    rw e (omega arith)
largest_most (suc k) n j h l =
    split n (B.chunk_size * 2 ^ suc k)
    (λ u.
    rw (B.largest, le-ltb (B.chunk_size * 2 ^ suc k) n u)
    (⊎_elim
    (λ e. absurd (omega (arith, subst (λ (z : ℕ). B.chunk_size * 2 ^ z < n) e l)))
    (λ i. largest_most k n j (omega arith) l)
    (eq-or-lt_of_le h)))
    (λ u.
    let m : 2 ^ j ≤ 2 ^ suc k = pow_mono h in
    rw (B.largest, lt-ltb (B.chunk_size * 2 ^ suc k) n u) (omega arith))

pub left_ge : (n : ℕ) → B.chunk_size ≤ B.left_size n
unfolding B.left_size
left_ge n = largest_ge n n

pub left_lt : (n : ℕ) → B.chunk_size < n → B.left_size n < n
unfolding B.left_size
left_lt n = largest_lt n n

-- the same of a shift
pub left_of : (n k : ℕ) → B.chunk_size < n → n < 2 ^ 32 → 2 ^ k ≤ n - 1 → n - 1 < 2 * 2 ^ k
    → (1 * 2 ^ k % 2 ^ 64 ≡ B.left_size n) × (B.chunk_size ≤ 1 * 2 ^ k % 2 ^ 64) × (1 * 2 ^ k % 2 ^ 64 < n)
left_of n k h fits lo hi =
    let same : 1 * 2 ^ k % 2 ^ 64 ≡ 2 ^ k = omega arith in
    let is : 2 ^ k ≡ B.left_size n = largest_below n k h lo hi in
    rw same (is, omega (arith, left_ge n), omega arith)
