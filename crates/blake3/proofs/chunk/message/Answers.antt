-- `blake3::chunk::message` meets its contract: a block is short or whole. Assumes nothing.
use Rattle.std.proofs.Common.{◌∙◌, arith}
use Rattle.blake3.proofs.MessageLaw.{message_whole}
use Rattle.blake3.proofs.chunk.message.Goals as goal

pub returns-else-s-at-lt-BLOCK : goal.returns-else-s-at-lt-BLOCK
returns-else-s-at-lt-BLOCK c = c.words.ensures ∙ message_whole _ _ (omega arith)
