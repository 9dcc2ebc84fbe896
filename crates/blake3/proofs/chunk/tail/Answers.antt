-- `blake3::chunk::tail` meets its contract: what it copies over zeros is the block, padded. Assumes nothing.
use Rattle.std.proofs.Common.{◌∙◌, arith, ap, refl, sym, length-take, length-drop}
use lib.Seq.{take_all}
use Rattle.octets.specs.Part.{part, replaced, repeated}
use Rattle.octets.proofs.ReplacedLaw.{replaced_none}
use Rattle.blake3.specs.Blake3 as B
use Rattle.blake3.proofs.MessageLaw.{copied_step, message_short}
use Rattle.blake3.proofs.chunk.tail.Goals as goal

pub loop-i-init : goal.loop-i-init
unfolding repeated
loop-i-init c = sym (replaced_none _ 0)

pub loop-i-preserved : goal.loop-i-preserved
loop-i-preserved c = copied_step _ _ _ _ (simp (length-take, length-drop) (omega arith)) c.loop-i.invariant c.loop-i-test.true refl

pub returns : goal.returns
unfolding part
returns c =
    c.words.ensures
    ∙ message_short _ _ _ _ c.requires.0 c.requires.1 refl
    (c.loop-i.invariant ∙ ap (replaced (repeated B.block_size 0) 0) (take_all _ _ c.loop-i-test.false))
