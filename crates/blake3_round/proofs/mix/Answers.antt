-- `blake3_round::mix` meets its contract: the rows of its eight steps are the four mixed columns. Assumes nothing.
use Rattle.blake3_round.specs.Round as R
use Rattle.blake3_round.proofs.RoundLaw.{mixed_of}
use Rattle.blake3_round.proofs.mix.Goals as goal

pub returns : goal.returns
unfolding R.mixed
returns c =
    mixed_of _ _ _ _ _ _ _ _ _ _ _ _ _ _ _ _ c.sum.ensures c.sum-a1.ensures c.turn-d1.ensures c.sum-c1.ensures c.turn-b1.ensures
    c.sum-2.ensures c.sum-a2.ensures c.turn-d2.ensures c.sum-c2.ensures c.turn-b2.ensures
