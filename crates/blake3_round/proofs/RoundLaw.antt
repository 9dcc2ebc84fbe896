-- A half-round from the rows that its steps give. Assumes nothing.
use Rattle.std.proofs.Common.{◌≡◌, ℕ, List, [], ◌∷◌}
use Rattle.blake3_round.specs.Round as R
use Rattle.blake3_round.specs.Round.{sums, turned, cell}

-- the eight steps of the mixing function, on rows
pub mixed_of : (a b c d x y t a1 d1 c1 b1 u a2 d2 c2 b2 : List ℕ)
    → t ≡ sums a b → a1 ≡ sums t x → d1 ≡ turned d a1 16 → c1 ≡ sums c d1 → b1 ≡ turned b c1 12
    → u ≡ sums a1 b1 → a2 ≡ sums u y → d2 ≡ turned d1 a2 8 → c2 ≡ sums c1 d2 → b2 ≡ turned b1 c2 7
    → (a2 ∷ b2 ∷ c2 ∷ d2 ∷ []) ≡ R.mixed (a ∷ b ∷ c ∷ d ∷ []) x y
unfolding R.mixed R.of_columns R.G R.sums R.turned
mixed_of a b c d x y t a1 d1 c1 b1 u a2 d2 c2 b2 p1 p2 p3 p4 p5 p6 p7 p8 p9 p10 =
    rw (p10, p9, p8, p7, p6, p5, p4, p3, p2, p1)

-- the diagonals, mixed as columns of rows turned left, and turned back
pub diagonals_of : (s : List (List ℕ)) (m : List ℕ) (t : List (List ℕ))
    → t ≡ R.mixed
    ((cell s 0 0 ∷ cell s 0 1 ∷ cell s 0 2 ∷ cell s 0 3 ∷ [])
    ∷ (cell s 1 1 ∷ cell s 1 2 ∷ cell s 1 3 ∷ cell s 1 0 ∷ [])
    ∷ (cell s 2 2 ∷ cell s 2 3 ∷ cell s 2 0 ∷ cell s 2 1 ∷ [])
    ∷ (cell s 3 3 ∷ cell s 3 0 ∷ cell s 3 1 ∷ cell s 3 2 ∷ [])
    ∷ [])
    (R.word m 8 ∷ R.word m 10 ∷ R.word m 12 ∷ R.word m 14 ∷ [])
    (R.word m 9 ∷ R.word m 11 ∷ R.word m 13 ∷ R.word m 15 ∷ [])
    → ((cell t 0 0 ∷ cell t 0 1 ∷ cell t 0 2 ∷ cell t 0 3 ∷ [])
    ∷ (cell t 1 3 ∷ cell t 1 0 ∷ cell t 1 1 ∷ cell t 1 2 ∷ [])
    ∷ (cell t 2 2 ∷ cell t 2 3 ∷ cell t 2 0 ∷ cell t 2 1 ∷ [])
    ∷ (cell t 3 1 ∷ cell t 3 2 ∷ cell t 3 3 ∷ cell t 3 0 ∷ [])
    ∷ [])
    ≡ R.diagonals s m
unfolding R.diagonals R.mixed R.of_columns R.of_diagonals
diagonals_of s m t e = rw e
