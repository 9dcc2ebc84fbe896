-- A chunk, block by block. Assumes nothing.
use Prim.Native.Nat.{ℕ, ◌+◌, ◌-◌, ◌*◌, ◌≤◌, ◌<◌, min}
use mathlib.Core.Path.{◌≡◌, sym, ◌∙◌}
use mathlib.Core.List.{List}
use native.Mathlib.Numerals.{add-one}
use native.Mathlib.Omega.{arith}
use lib.ListN.{length}
use Rattle.octets.specs.Part.{part}
use Rattle.octets.proofs.PartLaw.{part_length_min}
use Rattle.blake3_compress.specs.Compress.{compress}
use Rattle.blake3.specs.Blake3 as B

-- a block starts within its chunk
pub block_within : (n k : ℕ) → k < B.blocks n → B.block_size * k ≤ n
unfolding B.blocks
block_within n k h = omega arith

-- the chaining value after one block more
pub chain_step : (s : List ℕ) (t first last n k b d : ℕ) (h h' m : List ℕ) → n ≡ B.blocks (length s) → h ≡ B.chain s t first last k
    → m ≡ B.message (part s (B.block_size * k) B.block_size) → b ≡ min B.block_size (length s - B.block_size * k)
    → d ≡ B.flags first last n k → h' ≡ compress h m t b d → h' ≡ B.chain s t first last (k + 1)
unfolding B.chain B.block
chain_step s t first last n k b d h h' m en eh em eb ed e =
    let size : b ≡ length (part s (B.block_size * k) B.block_size) = eb ∙ sym (part_length_min s (B.block_size * k) B.block_size) in
    rw (add-one, e, eh, em, size, ed, en)
