-- BLAKE3, the plain hash of 32 bytes, after sections 2.1 and 2.3 to 2.6 of the paper "BLAKE3: one function, fast everywhere", over
-- lists of natural numbers. The compression function is that of blake3_compress. What stands in quotes is
-- document 01's. Assumes nothing: these are definitions.
use Rattle.std.specs.Prelude.{ℕ, zero, suc, ◌+◌, ◌-◌, ◌*◌, ◌/◌, ◌^◌, Bool, true, false, List, [], ◌∷◌, ◌++◌, length, take, drop, leb, ltb, eqb}
use Rattle.octets.specs.Part.{part, repeated}
use Rattle.octets.specs.Number.{number, bytes}
use Rattle.blake3_compress.specs.Compress.{IV, compress}

-- ---- constants

-- "Chunks are 1,024 bytes, blocks 64"
abbrev pub chunk_size : ℕ
chunk_size = 1024

abbrev pub block_size : ℕ
block_size = 64

-- "and fills 32"
abbrev pub digest_size : ℕ
digest_size = 32

-- the flags of a compression. A plain hash has these four
abbrev pub CHUNK_START : ℕ
CHUNK_START = 1

abbrev pub CHUNK_END : ℕ
CHUNK_END = 2

abbrev pub PARENT : ℕ
PARENT = 4

abbrev pub ROOT : ℕ
ROOT = 8

-- ---- a chunk (2.4)

-- block k of the bytes s; the last may be short
unfoldable pub block : List ℕ → ℕ → List ℕ
block s k = part s (block_size * k) block_size

-- how many blocks n bytes have. 0 - 1 is 0: no bytes have one block, which is empty
unfoldable pub blocks : ℕ → ℕ
blocks n = (n - 1) / block_size + 1

-- the first n little-endian words of the bytes l
unfoldable pub words : ℕ → List ℕ → List ℕ
words zero l = []
words (suc n) l = number (take 4 l) ∷ words n (drop 4 l)

-- the sixteen message words of a block: a short one is padded with zeros
unfoldable pub message : List ℕ → List ℕ
message b = words 16 (b ++ repeated (block_size - length b) 0)

-- the flags f, where the test holds
abbrev pub on : Bool → ℕ → ℕ
on true f = f
on false f = 0

-- the flags of block k of n: the first block has the flags first, the last block the flags last. No flag is in both, so that
-- their sum has them all
unfoldable pub flags : ℕ → ℕ → ℕ → ℕ → ℕ
flags first last n k = on (eqb k 0) first + on (eqb (k + 1) n) last

-- the chaining value after the first k blocks of s; t is the counter
unfoldable pub chain : List ℕ → ℕ → ℕ → ℕ → ℕ → List ℕ
chain s t first last zero = IV
chain s t first last (suc k) =
    compress (chain s t first last k) (message (block s k)) t (length (block s k)) (flags first last (blocks (length s)) k)

-- the output of the chunk s, number t of the input; root is ROOT where the chunk is the whole input, and else 0
unfoldable pub chunk : List ℕ → ℕ → ℕ → List ℕ
chunk s t root = chain s t CHUNK_START (CHUNK_END + root) (blocks (length s))

-- ---- the tree (2.1, 2.5)

-- the output of the parent of two chaining values
unfoldable pub parent : List ℕ → List ℕ → ℕ → List ℕ
parent l r root = compress IV (l ++ r) 0 block_size (PARENT + root)

-- the largest of chunk_size * 2 ^ k, .., chunk_size * 2 that is less than n, or else chunk_size
unfoldable pub largest : ℕ → ℕ → ℕ
largest zero n = chunk_size
largest (suc k) n = elim (ltb (chunk_size * 2 ^ suc k) n) [ true ↦ chunk_size * 2 ^ suc k | false ↦ largest k n ]

-- of n bytes, more than a chunk, how many go to the left: "the largest power of two of whole chunks that leaves at least one byte
-- on the right" (the claim LeftIsLargest)
unfoldable pub left_size : ℕ → ℕ
left_size n = largest n n

-- the output of the subtree over s, whose first chunk is number t of the input, by at most f levels of recursion
unfoldable pub tree : ℕ → List ℕ → ℕ → ℕ → List ℕ
tree zero s t root = chunk s t root
tree (suc f) s t root =
    elim (leb (length s) chunk_size) [
      | true ↦ chunk s t root
      | false ↦
          let l = left_size (length s) in
          parent (tree f (take l s) t 0) (tree f (drop l s) (t + l / chunk_size) 0) root
    ]

-- the same by as many levels as s has bytes: each side is shorter than s, so that is enough (the claim LevelsAreEnough)
unfoldable pub subtree : List ℕ → ℕ → ℕ → List ℕ
subtree s t root = tree (length s) s t root

-- ---- the output (2.6)

-- the bytes of words, little-endian
unfoldable pub bytes_of : List ℕ → List ℕ
bytes_of [] = []
bytes_of (x ∷ xs) = bytes 4 x ++ bytes_of xs

-- BLAKE3's 32 bytes of s
unfoldable pub digest : List ℕ → List ℕ
digest s = bytes_of (subtree s 0 ROOT)
