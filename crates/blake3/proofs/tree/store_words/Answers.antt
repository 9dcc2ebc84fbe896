-- `blake3::tree::store_words` meets its contract, word by word. Assumes nothing.
use Rattle.std.proofs.Common.{rules}
use Rattle.blake3.proofs.OutputLaw.{stored_start, stored_step, stored_end}
use Rattle.blake3.proofs.tree.store_words.Goals as goal

pub loop-i-init : goal.loop-i-init
loop-i-init c = stored_start _ _ _

pub loop-i-preserved : goal.loop-i-preserved
loop-i-preserved c =
    stored_step _ _ _ _ _ _ c.loop-i.invariant (search rules) (search rules) c.store_u32.ensures c.store_u32.auto.s

pub returns : goal.returns
returns c = stored_end _ _ _ _ _ c.loop-i.invariant (search rules)
