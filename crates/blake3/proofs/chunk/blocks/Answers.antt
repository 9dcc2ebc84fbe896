-- `blake3::chunk::blocks` meets its contract, in the two cases of its test. Assumes nothing.
use Rattle.std.proofs.Common.{arith}
use Rattle.blake3.specs.Blake3 as B
use Rattle.blake3.proofs.chunk.blocks.Goals as goal

pub returns-then-n-eq0 : goal.returns-then-n-eq0
unfolding B.blocks
returns-then-n-eq0 c = omega arith

pub returns-else-n-eq0 : goal.returns-else-n-eq0
unfolding B.blocks
returns-else-n-eq0 c = omega arith
