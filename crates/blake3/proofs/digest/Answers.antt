-- `blake3::digest` meets its contract: the root's eight words fill the 32 bytes. Assumes nothing.
use Rattle.std.proofs.Common.{arith, ap, length, ◌∙◌, ◌≡◌}
use Rattle.blake3.specs.Blake3 as B
use Rattle.blake3.proofs.OutputLaw.{stored_all}
use Rattle.blake3.proofs.TreeLaw.{subtree_length}
use Rattle.blake3.proofs.digest.Goals as goal

pub returns : goal.returns
unfolding B.digest
returns c =
    let size : length c.node-h.result ≡ 8 = ap length c.node-h.ensures ∙ subtree_length c.args.input.now 0 B.ROOT in
    stored_all _ _ _ (omega (arith, size, c.requires.1)) c.store_words.ensures ∙ ap B.bytes_of c.node-h.ensures
