-- `validity::are_unused` meets its contract: where a piece is not filled with zeros, a count is used. Assumes nothing.
use Rattle.std.proofs.Common.{not, ap, arith}
use Rattle.validity.proofs.CheckLaw.{piece_used}
use Rattle.validity.proofs.are_unused.Goals as goal

pub returns-then-not-filled : goal.returns-then-not-filled
returns-then-not-filled c =
    piece_used _ _ _ _ _ _ c.count_start-from.ensures c.filled.ensures (omega arith) (ap not c.if-not-filled.true)
