-- What a reader wants to know of the definitions. Each claim is a type; its proof has the claim's name in proofs/Theorems.antt.
use Rattle.std.specs.Prelude.{ℕ, ◌+◌, ◌*◌, ◌/◌, ◌^◌, ◌≤◌, ◌<◌, ◌≡◌, List, length, take, drop}
use Rattle.octets.specs.Part.{AreBytes}
use Rattle.blake3.specs.Blake3.{chunk_size, digest_size, chunk, left_size, parent, tree, subtree, digest}

-- a digest is digest_size bytes, whatever the input
unfoldable pub DigestIsBytes : Type 0
DigestIsBytes = (s : List ℕ) → (length (digest s) ≡ digest_size) × AreBytes (digest s)

-- of more than a chunk, the left side is a power of two of whole chunks, it leaves at least one byte on the right, and no larger
-- such power does
pub record LargestLeft (n : ℕ) : Type 0 where
  pub power : ℕ
  pub chunks : left_size n ≡ chunk_size * 2 ^ power
  pub leaves : left_size n < n
  pub most : (j : ℕ) → chunk_size * 2 ^ j < n → chunk_size * 2 ^ j ≤ left_size n

unfoldable pub LeftIsLargest : Type 0
LeftIsLargest = (n : ℕ) → chunk_size < n → LargestLeft n

-- any number of levels that is at least the number of bytes gives the same
unfoldable pub LevelsAreEnough : Type 0
LevelsAreEnough = (f g : ℕ) (s : List ℕ) (t root : ℕ) → length s ≤ f → length s ≤ g → tree f s t root ≡ tree g s t root

-- so a subtree is its one chunk, or the parent of its two sides
pub record Recursive (s : List ℕ) (t root : ℕ) : Type 0 where
  pub small : length s ≤ chunk_size → subtree s t root ≡ chunk s t root
  pub large : chunk_size < length s
      → subtree s t root
      ≡ parent
      (subtree (take (left_size (length s)) s) t 0)
      (subtree (drop (left_size (length s)) s) (t + left_size (length s) / chunk_size) 0)
      root

unfoldable pub SubtreeIsRecursive : Type 0
SubtreeIsRecursive = (s : List ℕ) (t root : ℕ) → Recursive s t root
