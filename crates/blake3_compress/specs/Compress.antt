-- BLAKE3's compression function, after section 2.2 of the paper "BLAKE3: one function, fast everywhere". Its rounds are those of
-- blake3_round. What stands in quotes is document 01's. Assumes nothing: these are definitions.
use Rattle.std.specs.Prelude.{ℕ, zero, suc, ◌/◌, ◌%◌, ◌^◌, List, [], ◌∷◌, map}
use Rattle.std.specs.Int.Bits.{bit_xor}
use Rattle.blake3_round.specs.Round.{word, cell, round}

-- ---- constants

-- the initial value, which the plain hash has for its key
abbrev pub IV : List ℕ
IV =
    0x6A09E667 ∷ 0xBB67AE85 ∷ 0x3C6EF372 ∷ 0xA54FF53A ∷ 0x510E527F ∷ 0x9B05688C ∷ 0x1F83D9AB ∷ 0x5BE0CD19 ∷ []

-- "the message words are permuted by 2 6 3 10 7 0 4 13 1 11 12 5 9 14 15 8": which word stands where in the next round
abbrev pub permutation : List ℕ
permutation =
    2 ∷ 6 ∷ 3 ∷ 10 ∷ 7 ∷ 0 ∷ 4 ∷ 13 ∷ 1 ∷ 11 ∷ 12 ∷ 5 ∷ 9 ∷ 14 ∷ 15 ∷ 8 ∷ []

-- ---- seven rounds

-- "between rounds the message words are permuted"
unfoldable pub permuted : List ℕ → List ℕ
permuted m = map (word m) permutation

-- n rounds
unfoldable pub rounds : ℕ → List (List ℕ) → List ℕ → List (List ℕ)
rounds zero s m = s
rounds (suc n) s m = rounds n (round s m) (permuted m)

-- ---- the compression function

-- the state that the rounds start from: the chaining value h, half the initial value, the counter t (below 2 ^ 64) in two words,
-- the block's length b, the flags d
unfoldable pub initial : List ℕ → ℕ → ℕ → ℕ → List (List ℕ)
initial h t b d =
    (word h 0 ∷ word h 1 ∷ word h 2 ∷ word h 3 ∷ [])
    ∷ (word h 4 ∷ word h 5 ∷ word h 6 ∷ word h 7 ∷ [])
    ∷ (word IV 0 ∷ word IV 1 ∷ word IV 2 ∷ word IV 3 ∷ [])
    ∷ (t % 2 ^ 32 ∷ t / 2 ^ 32 ∷ b ∷ d ∷ [])
    ∷ []

-- the first eight words of the output, which are the chaining value: the upper half of the state against the lower
unfoldable pub output : List (List ℕ) → List ℕ
output s =
    bit_xor (cell s 0 0) (cell s 2 0)
    ∷ bit_xor (cell s 0 1) (cell s 2 1)
    ∷ bit_xor (cell s 0 2) (cell s 2 2)
    ∷ bit_xor (cell s 0 3) (cell s 2 3)
    ∷ bit_xor (cell s 1 0) (cell s 3 0)
    ∷ bit_xor (cell s 1 1) (cell s 3 1)
    ∷ bit_xor (cell s 1 2) (cell s 3 2)
    ∷ bit_xor (cell s 1 3) (cell s 3 3)
    ∷ []

-- the compression of the message words m of a block, "mixed for 7 rounds"
unfoldable pub compress : List ℕ → List ℕ → ℕ → ℕ → ℕ → List ℕ
compress h m t b d = output (rounds 7 (initial h t b d) m)
