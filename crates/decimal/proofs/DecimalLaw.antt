-- Laws of a number's text: how it grows by a digit, which bytes it has, its length, and what it spells. Assumes nothing.
use mathlib.Core.Path.{◌≡◌, refl, ap, ap₂, sym, ◌∙◌}
use mathlib.Core.Bool.{Bool, true, false}
use mathlib.Core.Logic.{◌⊎◌, inl, inr, ⊎_elim}
use mathlib.Core.List.{List, [], ◌∷◌, ◌++◌}
use Prim.Native.Nat.{ℕ, zero, suc, ◌+◌, ◌*◌, ◌/◌, ◌%◌, ◌-◌, ◌^◌, ◌≤◌, ◌<◌}
use native.Mathlib.Nat.{pow-suc, div-lt_iff_lt-mul}
use native.Mathlib.Numerals.{add-one}
use native.Mathlib.Omega.{arith}
use borrow.Author.Tests.{ltb-true, ltb-false, lt-ltb, le-ltb}
use lib.Dec.{ltb, lit<}
use lib.ListN.{length, get_or, length-append, get_or-append}
use lib.Seq.{get_or_at}
use lib.IntN.{ℤ, pos, negsuc}
use mir.Syntax.{w64}
use mir.Val.{SFits}
use Rattle.decimal.specs.Decimal.{zero_digit, digits, decimal, signed_decimal, spelled_after, spelled}

-- ---- the text

tested : (m n : ℕ) (b : Bool) → ltb m n ≡ b → (m < n) ⊎ (n ≤ m)
tested m n true e = inl (ltb-true m n e)
tested m n false e = inr (ltb-false m n e)

below : (m n : ℕ) → (m < n) ⊎ (n ≤ m)
below m n = tested m n (ltb m n) refl

digits_one : (k n : ℕ) → n < 10 → digits (suc k) n ≡ (zero_digit + n) ∷ []
unfolding digits
digits_one k n h = rw (lt-ltb n 10 h, digits)

digits_more : (k n : ℕ) → 10 ≤ n → digits (suc k) n ≡ digits k (n / 10) ++ ((zero_digit + n % 10) ∷ [])
unfolding digits
digits_more k n h = rw (le-ltb n 10 h, digits)

-- more digits than are needed change nothing
digits_enough : (k j n : ℕ) → n < k → n < j → digits k n ≡ digits j n
digits_enough zero j n h e = absurd (omega arith)
digits_enough (suc k) zero n h e = absurd (omega arith)
digits_enough (suc k) (suc j) n h e =
    ⊎_elim (λ s. digits_one k n s ∙ sym (digits_one j n s))
    (λ s.
    digits_more k n s
    ∙ ap (λ (l : List ℕ). l ++ ((zero_digit + n % 10) ∷ [])) (digits_enough k j (n / 10) (omega arith) (omega arith))
    ∙ sym (digits_more j n s))
    (below n 10)

pub decimal_one : (n : ℕ) → n < 10 → decimal n ≡ (zero_digit + n) ∷ []
unfolding decimal
decimal_one n h = rw add-one (digits_one n n h)

pub decimal_more : (n : ℕ) → 10 ≤ n → decimal n ≡ decimal (n / 10) ++ ((zero_digit + n % 10) ∷ [])
unfolding decimal
decimal_more n h =
    ap (λ (k : ℕ). digits k n) (add-one n)
    ∙ digits_more n n h
    ∙ ap (λ (l : List ℕ). l ++ ((zero_digit + n % 10) ∷ [])) (digits_enough n (n / 10 + 1) (n / 10) (omega arith) (omega arith))

-- a digit behind a number that is not 0
pub decimal_digit : (n d : ℕ) → 1 ≤ n → d < 10 → decimal (n * 10 + d) ≡ decimal n ++ ((zero_digit + d) ∷ [])
decimal_digit n d h k =
    let front : (n * 10 + d) / 10 ≡ n = omega arith in
    let last : (n * 10 + d) % 10 ≡ d = omega arith in
    decimal_more (n * 10 + d) (omega arith) ∙ ap₂ (λ (x y : ℕ). decimal x ++ ((zero_digit + y) ∷ [])) front last

-- what holds of one digit, and with a digit behind, holds of every number
by_digits : (P : ℕ → Type 0) → ((n : ℕ) → n < 10 → P n) → ((n : ℕ) → 10 ≤ n → P (n / 10) → P n) → (m n : ℕ) → n < m → P n
by_digits P one more zero n h = absurd (omega arith)
by_digits P one more (suc m) n h =
    ⊎_elim (λ s. one n s) (λ s. more n s (by_digits P one more m (n / 10) (omega arith))) (below n 10)

pub decimal_longer : (n : ℕ) → 10 ≤ n → length (decimal n) ≡ length (decimal (n / 10)) + 1
decimal_longer n h = ap length (decimal_more n h) ∙ length-append (decimal (n / 10)) ((zero_digit + n % 10) ∷ [])

-- every byte is a digit
abbrev AreDigits : List ℕ → Type 0
AreDigits l = (i : ℕ) → i < length l → (zero_digit ≤ get_or l i 0) × (get_or l i 0 < zero_digit + 10)

are_one : (n : ℕ) → n < 10 → AreDigits ((zero_digit + n) ∷ [])
are_one n h zero k = (omega arith, omega arith)
are_one n h (suc i) k = absurd (omega arith)

are_more : (l : List ℕ) (n : ℕ) → n < 10 → AreDigits l → AreDigits (l ++ ((zero_digit + n) ∷ []))
are_more l n h a i k =
    ⊎_elim (λ s. rw (get_or-append l ((zero_digit + n) ∷ []) 0 i s) (a i s))
    (λ (s : length l ≤ i).
    let e : length l ≡ i = omega (arith, length-append l ((zero_digit + n) ∷ [])) in
    rw (get_or_at l (zero_digit + n) [] 0 i e) (omega arith, omega arith))
    (below i (length l))

pub decimal_digits : (n i : ℕ) → i < length (decimal n) → (zero_digit ≤ get_or (decimal n) i 0) × (get_or (decimal n) i 0 < zero_digit + 10)
decimal_digits n =
    by_digits (λ (x : ℕ). AreDigits (decimal x)) (λ x h. rw (decimal_one x h) (are_one x h))
    (λ x h a. rw (decimal_more x h) (are_more (decimal (x / 10)) (x % 10) (omega arith) a))
    (suc n)
    n
    (omega arith)

-- there is one
pub decimal_some : (n : ℕ) → 1 ≤ length (decimal n)
decimal_some n =
    by_digits (λ (x : ℕ). 1 ≤ length (decimal x)) (λ x h. omega (arith, ap length (decimal_one x h)))
    (λ x h a. omega (arith, decimal_longer x h))
    (suc n)
    n
    (omega arith)

-- the first is not 0, but of 0 itself
first : (n : ℕ) → 1 ≤ n → zero_digit < get_or (decimal n) 0 0
first n =
    by_digits (λ (x : ℕ). 1 ≤ x → zero_digit < get_or (decimal x) 0 0) (λ x h k. rw (decimal_one x h) (omega arith))
    (λ x h a k.
    rw (decimal_more x h, get_or-append (decimal (x / 10)) ((zero_digit + x % 10) ∷ []) 0 0 (decimal_some (x / 10))) (a (omega arith)))
    (suc n)
    n
    (omega arith)

pub decimal_first : (n : ℕ) (rest : List ℕ) → decimal n ≡ zero_digit ∷ rest → rest ≡ []
decimal_first n rest e = ⊎_elim (λ s. cc (decimal_one n (omega arith))) (λ s. absurd (omega (arith, rw e at (first n s)))) (below n 1)

-- ---- its length

pub decimal_size : (k n : ℕ) → 1 ≤ k → n < 10 ^ k → length (decimal n) ≤ k
decimal_size zero n h e = absurd (omega arith)
decimal_size (suc zero) n h e = omega (arith, ap length (decimal_one n e))
decimal_size (suc (suc k)) n h e =
    ⊎_elim (λ s. omega (arith, ap length (decimal_one n s)))
    (λ s.
    let small : n / 10 < 10 ^ suc k = (div-lt_iff_lt-mul (lit< tt)).1 (rw pow-suc at e) in
    omega (arith, decimal_longer n s, decimal_size (suc k) (n / 10) (omega arith) small))
    (below n 10)

-- of a number of 64 bits
pub decimal_size_64 : (n : ℕ) → n < 18446744073709551616 → length (decimal n) ≤ 20
decimal_size_64 n h = decimal_size 20 n (omega arith) (omega arith)

pub signed_size : (z : ℤ) → SFits w64 z → length (signed_decimal z) ≤ 21
unfolding signed_decimal
signed_size (pos n) h = omega (arith, decimal_size_64 n (omega (arith, h.sfits)))
signed_size (negsuc n) h = omega (arith, decimal_size_64 (n + 1) (omega (arith, h.sfits)))

-- ---- what a text spells

pub spelled_append : (n : ℕ) (s t : List ℕ) → spelled_after n (s ++ t) ≡ spelled_after (spelled_after n s) t
unfolding spelled_after
spelled_append n [] t = refl
spelled_append n (b ∷ s) t = spelled_append (10 * n + (b - zero_digit)) s t

-- it does not fall
pub spelled_grows : (n : ℕ) (s : List ℕ) → n ≤ spelled_after n s
unfolding spelled_after
spelled_grows n [] = omega arith
spelled_grows n (b ∷ s) = omega (arith, spelled_grows (10 * n + (b - zero_digit)) s)

spelled_one : (m n : ℕ) → spelled_after m ((zero_digit + n) ∷ []) ≡ 10 * m + n
unfolding spelled_after
spelled_one m n = omega arith

pub spelled_decimal : (n : ℕ) → spelled (decimal n) ≡ n
spelled_decimal n =
    by_digits (λ (x : ℕ). spelled (decimal x) ≡ x) (λ x h. ap spelled (decimal_one x h) ∙ spelled_one 0 x ∙ omega arith)
    (λ x h a.
    ap spelled (decimal_more x h)
    ∙ spelled_append 0 (decimal (x / 10)) ((zero_digit + x % 10) ∷ [])
    ∙ spelled_one (spelled (decimal (x / 10))) (x % 10)
    ∙ omega arith)
    (suc n)
    n
    (omega arith)
