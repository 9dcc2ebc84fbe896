-- Numbers as text: decimal, in ASCII, after document 01, "The script and its printout". Assumes nothing: these are definitions.
use Rattle.std.specs.Prelude.{ℕ, zero, suc, ◌+◌, ◌-◌, ◌*◌, ◌/◌, ◌%◌, true, false, List, [], ◌∷◌, ◌++◌, ltb, ℤ, pos, negsuc}

-- `0`; the digits follow it
abbrev pub zero_digit : ℕ
zero_digit = 48

-- `-`
abbrev pub minus : ℕ
minus = 45

-- n by its last digit and those before it, down to a number of one digit; k digits at most
unfoldable pub digits : ℕ → ℕ → List ℕ
digits zero n = []
digits (suc k) n = elim (ltb n 10) [ true ↦ (zero_digit + n) ∷ [] | false ↦ digits k (n / 10) ++ ((zero_digit + n % 10) ∷ []) ]

-- "decimal without sign or leading zeros". No number has more digits than one above itself
unfoldable pub decimal : ℕ → List ℕ
decimal n = digits (n + 1) n

-- "with a minus sign if negative"
unfoldable pub signed_decimal : ℤ → List ℕ
signed_decimal (pos n) = decimal n
signed_decimal (negsuc n) = minus ∷ decimal (n + 1)

-- the number that a text spells behind digits that spell n. A byte that is no digit counts for something too: see `is_value`
unfoldable pub spelled_after : ℕ → List ℕ → ℕ
spelled_after n [] = n
spelled_after n (b ∷ text) = spelled_after (10 * n + (b - zero_digit)) text

abbrev pub spelled : List ℕ → ℕ
spelled text = spelled_after 0 text
