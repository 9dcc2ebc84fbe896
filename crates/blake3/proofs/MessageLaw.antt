-- Message words: sixteen words read one by one, a whole block and a short one. Assumes nothing.
use Prim.Native.Nat.{ℕ, zero, suc, ◌+◌, ◌-◌, ◌*◌, ◌<◌, ◌≤◌}
use mathlib.Core.Path.{◌≡◌, refl, ap, sym, ◌∙◌}
use mathlib.Core.List.{List, [], ◌∷◌, ◌++◌, append-nil}
use native.Mathlib.Nat.{zero-add}
use native.Mathlib.Numerals.{add-one}
use native.Mathlib.Omega.{arith}
use lib.ListN.{length, get_or, set, take, drop}
use lib.Seq.{length-take-le, take-suc, drop-drop, take-take}
use Rattle.octets.specs.Part.{part, replaced, repeated}
use Rattle.octets.specs.Number.{number_at}
use Rattle.octets.proofs.RepeatedLaw.{repeated_length, repeated_drop}
use Rattle.octets.proofs.ReplacedLaw.{replaced_length, replaced_next, replaced_sets}
use Rattle.octets.proofs.PartLaw.{part_length, part_rest, drop_take}
use Rattle.blake3.specs.Blake3 as B

-- words that are those of the bytes, place by place
words_from : (l : List ℕ) (at n : ℕ) (ws : List ℕ) → length ws ≡ n → ((k : ℕ) → k < n → get_or ws k 0 ≡ number_at l (at + 4 * k) 4)
    → ws ≡ B.words n (drop at l)
unfolding B.words number_at part
words_from l at zero [] e h = refl
words_from l at zero (x ∷ ws) e h = absurd (omega arith)
words_from l at (suc n) [] e h = absurd (omega arith)
words_from l at (suc n) (x ∷ ws) e h =
    let first : x ≡ number_at l at 4 = h 0 (omega arith) ∙ ap (λ (k : ℕ). number_at l k 4) (omega arith) in
    let rest : ws ≡ B.words n (drop (at + 4) l) =
    words_from l (at + 4) n ws (omega arith) (λ k b. h (suc k) (omega arith) ∙ ap (λ (i : ℕ). number_at l i 4) (omega arith)) in
    let next : drop 4 (drop at l) ≡ drop (at + 4) l = drop-drop 4 at l in
    rw (first, rest, next)

pub words_of : (l : List ℕ) (at : ℕ) (ws : List ℕ) → length ws ≡ 16 → ((k : ℕ) → k < 16 → get_or ws k 0 ≡ number_at l (at + 4 * k) 4)
    → ws ≡ B.words 16 (drop at l)
words_of l at ws = words_from l at 16 ws

-- n words are those of the first 4 * n bytes
words_take : (n : ℕ) (l : List ℕ) → B.words n (take (4 * n) l) ≡ B.words n l
unfolding B.words
words_take zero l = refl
words_take (suc n) l =
    let rest : 4 * suc n - 4 ≡ 4 * n = omega arith in
    let head : take 4 (take (4 * suc n) l) ≡ take 4 l = take-take 4 (4 * suc n) l (omega arith) in
    let tail : drop 4 (take (4 * suc n) l) ≡ take (4 * n) (drop 4 l) = drop_take 4 (4 * suc n) l ∙ ap (λ (k : ℕ). take k (drop 4 l)) rest in
    rw (head, tail, words_take n (drop 4 l))

-- a whole block is not padded
pub message_whole : (l : List ℕ) (at : ℕ) → at + B.block_size ≤ length l → B.words 16 (drop at l) ≡ B.message (part l at B.block_size)
unfolding B.message repeated part
message_whole l at h =
    sym
    (ap (λ (n : ℕ). B.words 16 (part l at B.block_size ++ repeated (B.block_size - n) 0)) (part_length l at B.block_size h)
    ∙ ap (B.words 16) (append-nil (part l at B.block_size))
    ∙ words_take 16 (drop at l))

-- a loop that copies the bytes xs over a block of zeros, one byte more
pub copied_step : (xs b b' : List ℕ) (i : ℕ) → length xs ≤ B.block_size → b ≡ replaced (repeated B.block_size 0) 0 (take i xs) → i < length xs
    → b' ≡ set b i (get_or xs i 0) → b' ≡ replaced (repeated B.block_size 0) 0 (take (i + 1) xs)
copied_step xs b b' i k p h e =
    let x : ℕ = get_or xs i 0 in
    let front : List ℕ = take i xs in
    let zeros : List ℕ = repeated B.block_size 0 in
    let size : i ≡ length front = sym (length-take-le i xs (omega arith)) in
    let block : length zeros ≡ B.block_size = repeated_length B.block_size 0 in
    let long : length b ≡ length zeros = ap length p ∙ replaced_length zeros 0 front (omega arith) in
    replaced_next zeros b front (x ∷ []) b' i p size (omega arith) (e ∙ replaced_sets b i (x ∷ []) (omega arith))
    ∙ ap (replaced zeros 0) (sym (ap (λ (n : ℕ). take n xs) (add-one i) ∙ take-suc xs i 0 h))

-- a short one, copied over zeros
pub message_short : (l : List ℕ) (at n : ℕ) (b : List ℕ) → at ≤ length l → length l ≤ at + B.block_size → n ≡ length l - at
    → b ≡ replaced (repeated B.block_size 0) 0 (part l at n) → B.words 16 b ≡ B.message (part l at B.block_size)
unfolding B.message replaced
message_short l at n b h k e q =
    let same : part l at n ≡ part l at B.block_size = part_rest l at n (omega arith) ∙ sym (part_rest l at B.block_size k) in
    ap (B.words 16)
    (q
    ∙ ap (λ (x : List ℕ). x ++ drop (0 + length x) (repeated B.block_size 0)) same
    ∙ ap (λ (x : List ℕ). part l at B.block_size ++ x) (repeated_drop B.block_size 0 (0 + length (part l at B.block_size)))
    ∙ ap (λ (i : ℕ). part l at B.block_size ++ repeated (B.block_size - i) 0) (zero-add (length (part l at B.block_size))))
