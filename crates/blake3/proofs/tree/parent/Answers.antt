-- `blake3::tree::parent` meets its contract: a parent is a chunk of one block. Assumes nothing.
use Rattle.std.proofs.Common.{rules, refl}
use Rattle.blake3.proofs.WordLaw.{words_small}
use Rattle.blake3.proofs.TreeLaw.{parent_of}
use Rattle.blake3.proofs.tree.parent.Goals as goal

pub returns : goal.returns
returns c =
    parent_of _ _ _ _ _ _ _ refl (search rules) (search rules)
    (words_small c.args.l c.well_formed.0.0 c.well_formed.0.1.1)
    (words_small c.args.r c.well_formed.1.0.0 c.well_formed.1.0.1.1)
    c.store_words.ensures
    c.store_words-2.ensures
    c.chain.ensures
