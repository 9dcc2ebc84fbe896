-- Lists of bytes: a part of one, one with a part replaced, a byte repeated, whether two are equal.
-- Assumes nothing: these are definitions.
use Rattle.std.specs.Prelude.{ℕ, ◌+◌, ◌<◌, Bool, true, false, ◌&&◌, List, [], ◌∷◌, ◌++◌, length, take, drop, get_or, replicate, eqb}

-- every element is below n
unfoldable pub Below : ℕ → List ℕ → Type 0
Below n l = (i : ℕ) → get_or l i 0 < n

-- every element is a byte
abbrev pub AreBytes : List ℕ → Type 0
AreBytes l = Below 256 l

-- the n elements of l from place at on
unfoldable pub part : List ℕ → ℕ → ℕ → List ℕ
part l at n = take n (drop at l)

-- l with the elements from place at on replaced by new
unfoldable pub replaced : List ℕ → ℕ → List ℕ → List ℕ
replaced l at new = take at l ++ (new ++ drop (at + length new) l)

-- n times b. It is shut, so that a long run of zeros is not written out in every goal
unfoldable pub repeated : ℕ → ℕ → List ℕ
repeated n b = replicate n b

-- whether the two lists are the same
unfoldable pub equal : List ℕ → List ℕ → Bool
equal [] [] = true
equal [] (y ∷ ys) = false
equal (x ∷ xs) [] = false
equal (x ∷ xs) (y ∷ ys) = eqb x y && equal xs ys
