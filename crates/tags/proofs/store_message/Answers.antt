-- The parts are stored one after the other. Assumes nothing.
use Rattle.octets.proofs.ReplacedLaw.{lent_filled}
use Rattle.lockpage.proofs.GeometryLaw.{present_proper as σ}
use Rattle.memory.proofs.FieldLaw.{salt_length}
use Rattle.tags.proofs.MessageLaw.{message_built}
use Rattle.tags.proofs.store_message.Goals as goal

pub returns : goal.returns
returns c =
    let ready = c.requires.0 in
    let out = c.args.out.now in
    message_built σ _ _ out _ _ _ _ _ _ ready.count.size ready.page_size_is c.requires.1
    (lent_filled out _ _ 0 _ (salt_length σ _ ready.count.size) c.copy_salt.ensures)
    c.store_u64.ensures c.count-count.ensures c.store_u32.ensures c.store_bytes.ensures
