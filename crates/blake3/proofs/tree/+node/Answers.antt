-- `blake3::tree::node` meets its contract: a chunk, or the parent of its two sides. Assumes nothing.
use Rattle.std.proofs.Common.{sym, ◌∙◌}
use Rattle.blake3.specs.Blake3 as B
use Rattle.blake3.proofs.TreeLaw.{subtree_small, subtree_of}
use Rattle.blake3.proofs.tree.+node.Goals as goal

pub returns-then-s-le-CHUNK : goal.returns-then-s-le-CHUNK
unfolding B.chunk
returns-then-s-le-CHUNK t c = c.chain.ensures ∙ sym (subtree_small _ _ _ c.if-s-le-CHUNK.true)

pub returns-else-s-le-CHUNK : goal.returns-else-s-le-CHUNK
returns-else-s-le-CHUNK t c =
    subtree_of _ _ _ _ _ _ _ c.if-s-le-CHUNK.false c.left_size-l.ensures.0 c.node-a.ensures c.node-b.ensures c.parent.ensures
