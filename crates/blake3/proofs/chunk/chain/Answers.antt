-- `blake3::chunk::chain` meets its contract, block by block. Assumes nothing.
use Rattle.std.proofs.Common.{arith, refl, length}
use Rattle.blake3.specs.Blake3 as B
use Rattle.blake3.proofs.ChunkLaw.{block_within, chain_step}
use Rattle.blake3.proofs.chunk.chain.Goals as goal

pub loop-k-init : goal.loop-k-init
unfolding B.chain
loop-k-init c = (c.blocks-n.ensures, refl)

pub overflow_mul-at : goal.overflow_mul-at
overflow_mul-at c =
    let within = block_within (length c.args.s.now) c.loop-k.k (omega (arith, c.loop-k-test.true, c.blocks-n.ensures)) in
    omega arith

pub message-requires : goal.message-requires
message-requires c = block_within _ _ (omega (arith, c.loop-k-test.true, c.blocks-n.ensures))

pub overflow_sub-s : goal.overflow_sub-s
overflow_sub-s c =
    let within = block_within (length c.args.s.now) c.loop-k.k (omega (arith, c.loop-k-test.true, c.blocks-n.ensures)) in
    omega arith

pub loop-k-preserved : goal.loop-k-preserved
loop-k-preserved c =
    let inv = c.loop-k.invariant in
    (inv.0, chain_step _ _ _ _ _ _ _ _ _ _ _ inv.0 inv.1 c.message.ensures c.block_len.ensures c.flags.ensures c.compress-next.ensures)
