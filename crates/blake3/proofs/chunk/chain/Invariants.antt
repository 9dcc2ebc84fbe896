-- `blake3::chunk::chain`: its loop's invariant is that h is the chaining value after k blocks. Assumes nothing.
use Rattle.std.proofs.Common.{◌≡◌, length}
use Rattle.blake3.specs.Blake3 as B
use Rattle.blake3.proofs.chunk.chain.Given as goal

abbrev pub invariant-loop-k : goal.invariant-loop-k
invariant-loop-k l = (l.n ≡ B.blocks (length l.s)) × (l.h ≡ B.chain l.s l.t l.first l.last l.k)
