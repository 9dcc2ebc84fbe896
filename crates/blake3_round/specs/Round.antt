-- A round of BLAKE3's compression, after section 2.2 of the paper "BLAKE3: one function, fast everywhere", over lists of natural
-- numbers: a word is a number below 2 ^ 32, and the state is "sixteen words taken as four rows of four". What stands in quotes is
-- document 01's. Assumes nothing: these are definitions.
use Rattle.std.specs.Prelude.{ℕ, ◌+◌, ◌-◌, ◌*◌, ◌/◌, ◌%◌, ◌^◌, List, [], ◌∷◌, bit_xor, slice_index, slice_index_or}

-- ---- words

-- "sums wrap at 32 bits"
abbrev pub add32 : ℕ → ℕ → ℕ
add32 a b = (a + b) % 2 ^ 32

-- the word x, its bits rotated right by n places
unfoldable pub rotr : ℕ → ℕ → ℕ
rotr x n = x / 2 ^ n + (x % 2 ^ n) * 2 ^ (32 - n)

-- word i of a list
abbrev pub word : List ℕ → ℕ → ℕ
word m i = slice_index m i

-- the word in row i and column j of a state
abbrev pub cell : List (List ℕ) → ℕ → ℕ → ℕ
cell s i j = word (slice_index_or s i []) j

-- ---- a round

-- the mixing function: four words of the state and two of the message give four words. "Rotations right are 16, 12, 8, 7"
unfoldable pub G : ℕ → ℕ → ℕ → ℕ → ℕ → ℕ → List ℕ
G a b c d x y =
    let a1 = add32 (add32 a b) x in
    let d1 = rotr (bit_xor d a1) 16 in
    let c1 = add32 c d1 in
    let b1 = rotr (bit_xor b c1) 12 in
    let a2 = add32 (add32 a1 b1) y in
    let d2 = rotr (bit_xor d1 a2) 8 in
    let c2 = add32 c1 d2 in
    let b2 = rotr (bit_xor b1 c2) 7 in
    a2 ∷ b2 ∷ c2 ∷ d2 ∷ []

-- the state, as rows, whose four columns are q
unfoldable pub of_columns : List (List ℕ) → List (List ℕ)
of_columns q =
    (cell q 0 0 ∷ cell q 1 0 ∷ cell q 2 0 ∷ cell q 3 0 ∷ [])
    ∷ (cell q 0 1 ∷ cell q 1 1 ∷ cell q 2 1 ∷ cell q 3 1 ∷ [])
    ∷ (cell q 0 2 ∷ cell q 1 2 ∷ cell q 2 2 ∷ cell q 3 2 ∷ [])
    ∷ (cell q 0 3 ∷ cell q 1 3 ∷ cell q 2 3 ∷ cell q 3 3 ∷ [])
    ∷ []

-- the state, as rows, whose four diagonals are q: diagonal j starts in column j of the first row
unfoldable pub of_diagonals : List (List ℕ) → List (List ℕ)
of_diagonals q =
    (cell q 0 0 ∷ cell q 1 0 ∷ cell q 2 0 ∷ cell q 3 0 ∷ [])
    ∷ (cell q 3 1 ∷ cell q 0 1 ∷ cell q 1 1 ∷ cell q 2 1 ∷ [])
    ∷ (cell q 2 2 ∷ cell q 3 2 ∷ cell q 0 2 ∷ cell q 1 2 ∷ [])
    ∷ (cell q 1 3 ∷ cell q 2 3 ∷ cell q 3 3 ∷ cell q 0 3 ∷ [])
    ∷ []

-- the four columns of s mixed, column j with word j of x and of y
unfoldable pub mixed : List (List ℕ) → List ℕ → List ℕ → List (List ℕ)
mixed s x y =
    of_columns
    (G (cell s 0 0) (cell s 1 0) (cell s 2 0) (cell s 3 0) (word x 0) (word y 0)
    ∷ G (cell s 0 1) (cell s 1 1) (cell s 2 1) (cell s 3 1) (word x 1) (word y 1)
    ∷ G (cell s 0 2) (cell s 1 2) (cell s 2 2) (cell s 3 2) (word x 2) (word y 2)
    ∷ G (cell s 0 3) (cell s 1 3) (cell s 2 3) (cell s 3 3) (word x 3) (word y 3)
    ∷ [])

-- the four columns are mixed, with the first eight message words
unfoldable pub columns : List (List ℕ) → List ℕ → List (List ℕ)
columns s m =
    mixed s (word m 0 ∷ word m 2 ∷ word m 4 ∷ word m 6 ∷ []) (word m 1 ∷ word m 3 ∷ word m 5 ∷ word m 7 ∷ [])

-- and the four diagonals, with the last eight
unfoldable pub diagonals : List (List ℕ) → List ℕ → List (List ℕ)
diagonals s m =
    of_diagonals
    (G (cell s 0 0) (cell s 1 1) (cell s 2 2) (cell s 3 3) (word m 8) (word m 9)
    ∷ G (cell s 0 1) (cell s 1 2) (cell s 2 3) (cell s 3 0) (word m 10) (word m 11)
    ∷ G (cell s 0 2) (cell s 1 3) (cell s 2 0) (cell s 3 1) (word m 12) (word m 13)
    ∷ G (cell s 0 3) (cell s 1 0) (cell s 2 1) (cell s 3 2) (word m 14) (word m 15)
    ∷ [])

-- a round: columns, then diagonals
unfoldable pub round : List (List ℕ) → List ℕ → List (List ℕ)
round s m = diagonals (columns s m) m

-- ---- rows, as the code works on them

-- the sums of two rows
unfoldable pub sums : List ℕ → List ℕ → List ℕ
sums x y =
    add32 (word x 0) (word y 0) ∷ add32 (word x 1) (word y 1) ∷ add32 (word x 2) (word y 2) ∷ add32 (word x 3) (word y 3) ∷ []

-- two rows against each other, rotated right by n
unfoldable pub turned : List ℕ → List ℕ → ℕ → List ℕ
turned x y n =
    rotr (bit_xor (word x 0) (word y 0)) n
    ∷ rotr (bit_xor (word x 1) (word y 1)) n
    ∷ rotr (bit_xor (word x 2) (word y 2)) n
    ∷ rotr (bit_xor (word x 3) (word y 3)) n
    ∷ []
