-- `blake3::tree::node` ends because each side is shorter than the whole. Assumes nothing.
use Rattle.std.proofs.Common.{length}
use Rattle.blake3.proofs.tree.+node.Given as goal

abbrev pub decreases-node : goal.decreases-node
decreases-node l = length l.s.now
