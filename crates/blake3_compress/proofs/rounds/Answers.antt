-- `blake3_compress::rounds` meets its contract: seven rounds, one after the other. Assumes nothing.
use Rattle.blake3_compress.proofs.CompressLaw.{round_of, last_of}
use Rattle.blake3_compress.proofs.rounds.Goals as goal

pub returns : goal.returns
returns c =
    round_of 6 _ _ _ _ _ _ c.columns.ensures c.diagonals-s1.ensures c.permute-m1.ensures
    (round_of 5 _ _ _ _ _ _ c.columns-2.ensures c.diagonals-s2.ensures c.permute-m2.ensures
    (round_of 4 _ _ _ _ _ _ c.columns-3.ensures c.diagonals-s3.ensures c.permute-m3.ensures
    (round_of 3 _ _ _ _ _ _ c.columns-4.ensures c.diagonals-s4.ensures c.permute-m4.ensures
    (round_of 2 _ _ _ _ _ _ c.columns-5.ensures c.diagonals-s5.ensures c.permute-m5.ensures
    (round_of 1 _ _ _ _ _ _ c.columns-6.ensures c.diagonals-s6.ensures c.permute-m6.ensures
    (last_of _ _ _ _ c.columns-7.ensures c.diagonals.ensures))))))
