-- What the functions on a chunk ask for. Assumes nothing: these are definitions.
use Rattle.std.specs.Prelude.{List, ℕ, ◌≤◌, ◌<◌, length}
use Rattle.blake3.specs.Blake3.{chunk_size}

-- a chunk's bytes, and the flags of its first and its last block: there are four flags
pub record ChunkReady (s : List ℕ) (first last : ℕ) : Type 0 where
  pub size : length s ≤ chunk_size
  pub first_flags : first < 16
  pub last_flags : last < 16

-- the same flags, and block k of the chunk's n
pub record FlagsReady (first last n k : ℕ) : Type 0 where
  pub first_flags : first < 16
  pub last_flags : last < 16
  pub block : k < n
