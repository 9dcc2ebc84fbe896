-- The claims of specs/Claims.antt, proved. Assumes nothing.
use Prim.Native.Nat.{ℕ, zero, suc, ◌*◌, ◌^◌, ◌<◌}
use mathlib.Core.Path.{ap, ◌∙◌}
use native.Mathlib.Nat.{pow-suc}
use native.Mathlib.Omega.{arith}
use lib.Dec.{lit<}
use Rattle.blake3.specs.Blake3 as B
use Rattle.blake3.specs.Claims.{DigestIsBytes, LeftIsLargest, LevelsAreEnough, SubtreeIsRecursive}
use Rattle.blake3.proofs.OutputLaw.{bytes_of_length, bytes_of_are}
use Rattle.blake3.proofs.LeftLaw.{largest_power, largest_lt, largest_most}
use Rattle.blake3.proofs.TreeLaw.{tree_enough, subtree_small, subtree_large, subtree_length}

pub digest_is_bytes : DigestIsBytes
unfolding DigestIsBytes B.digest
digest_is_bytes s = (
  bytes_of_length (B.subtree s 0 B.ROOT) ∙ ap (λ (n : ℕ). 4 * n) (subtree_length s 0 B.ROOT),
  bytes_of_are (B.subtree s 0 B.ROOT),
)

-- a power of two is above its exponent
below_power : (j : ℕ) → j < 2 ^ j
below_power zero = lit< tt
below_power (suc j) = omega (arith, below_power j, pow-suc 2 j)

pub left_is_largest : LeftIsLargest
unfolding LeftIsLargest B.left_size
left_is_largest n h =
    record {
      power = (largest_power n n).0;
      chunks = (largest_power n n).1;
      leaves = largest_lt n n h;
      most = λ j l. largest_most n n j (omega (arith, below_power j)) l;
    }

pub levels_are_enough : LevelsAreEnough
unfolding LevelsAreEnough
levels_are_enough = tree_enough

pub subtree_is_recursive : SubtreeIsRecursive
unfolding SubtreeIsRecursive
subtree_is_recursive s t root = record { small = subtree_small s t root; large = subtree_large s t root }
