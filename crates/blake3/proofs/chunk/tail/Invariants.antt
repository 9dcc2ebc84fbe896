-- `blake3::chunk::tail`: its loop's invariant is that the first i bytes are copied over the zeros. Assumes nothing.
use Rattle.std.proofs.Common.{◌≡◌, take}
use Rattle.octets.specs.Part.{replaced, repeated}
use Rattle.blake3.specs.Blake3 as B
use Rattle.blake3.proofs.chunk.tail.Given as goal

abbrev pub invariant-loop-i : goal.invariant-loop-i
invariant-loop-i l = l.b ≡ replaced (repeated B.block_size 0) 0 (take l.i l.byte-items)
