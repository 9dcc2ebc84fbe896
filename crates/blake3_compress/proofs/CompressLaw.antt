-- Seven rounds from their half-rounds, and the compression from the state that they leave. Assumes nothing.
use Prim.Native.Nat.{ℕ, suc, ◌/◌, ◌%◌, ◌^◌, ◌<◌}
use mathlib.Core.Path.{◌≡◌, refl}
use mathlib.Core.List.{List, [], ◌∷◌}
use native.Mathlib.Omega.{arith}
use lib.ListN.{length}
use Rattle.blake3_round.specs.Round as R
use Rattle.blake3_round.specs.Round.{word}
use Rattle.blake3_compress.specs.Compress as C
use Rattle.blake3_compress.specs.Compress.{IV}

-- one round more
pub round_of : (n : ℕ) (s c s' r : List (List ℕ)) (m m' : List ℕ) → c ≡ R.columns s m → s' ≡ R.diagonals c m → m' ≡ C.permuted m
    → r ≡ C.rounds n s' m' → r ≡ C.rounds (suc n) s m
unfolding C.rounds R.round
round_of n s c s' r m m' pc ps pm pr = rw (pr, ps, pc, pm)

-- and the last
pub last_of : (s c r : List (List ℕ)) (m : List ℕ) → c ≡ R.columns s m → r ≡ R.diagonals c m → r ≡ C.rounds 1 s m
unfolding C.rounds R.round
last_of s c r m pc pr = rw (pr, pc)

-- the counter is below 2 ^ 32, so its upper word is 0
pub compress_of : (h m : List ℕ) (t b d : ℕ) (s : List (List ℕ)) → t < 2 ^ 32
    → s ≡ C.rounds 7
    ((word h 0 ∷ word h 1 ∷ word h 2 ∷ word h 3 ∷ [])
    ∷ (word h 4 ∷ word h 5 ∷ word h 6 ∷ word h 7 ∷ [])
    ∷ (word IV 0 ∷ word IV 1 ∷ word IV 2 ∷ word IV 3 ∷ [])
    ∷ (t ∷ 0 ∷ b ∷ d ∷ [])
    ∷ [])
    m
    → C.output s ≡ C.compress h m t b d
unfolding C.compress C.initial
compress_of h m t b d s ht e =
    let low : t % 2 ^ 32 ≡ t = omega arith in
    let high : t / 2 ^ 32 ≡ 0 = omega arith in
    rw (e, low, high)

-- a chaining value is eight words
pub compress_length : (h m : List ℕ) (t b d : ℕ) → length (C.compress h m t b d) ≡ 8
unfolding C.compress C.output
compress_length h m t b d = refl
