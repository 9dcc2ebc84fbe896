-- The block at the answer's front, then zeros. Assumes nothing.
use borrow.Author.Rules.{rules}
use Rattle.lockpage.proofs.GeometryLaw.{present_proper as σ}
use Rattle.disk.proofs.DiskLaw.{has_group_of}
use Rattle.validity.proofs.ValidLaw.{facts}
use Rattle.answers.proofs.ShowLaw.{read_outcome}
use Rattle.answers.proofs.shows.read.Goals as goal

pub set_last_time-requires : goal.set_last_time-requires
set_last_time-requires c = (facts σ _ c.requires.box.memory).size

pub read_block-requires : goal.read_block-requires
read_block-requires c = (has_group_of σ _ _ _ c.requires.box.disk c.requires.block, search rules)

pub returns : goal.returns
returns c =
    read_outcome σ _ _ _ _ c.set_last_time.ensures c.args.answer.now _ _ _ c.requires.box.disk c.requires.block
    c.requires.answer_size_is c.read_block.ensures c.zero_tail.ensures
