-- BLAKE3's definition computes the published digests. Assumes nothing.
use mathlib.Core.Path.{refl}
use Rattle.octets.specs.Part.{part, repeated}
use Rattle.octets.specs.Number.{number, bytes}
use Rattle.blake3_round.specs.Round as R
use Rattle.blake3_compress.specs.Compress as C
use Rattle.blake3.specs.Blake3 as B
use Rattle.blake3_vectors.specs.Published.{Published, input, spelled}

pub published : Published
unfolding input spelled part repeated number bytes R.rotr R.G R.of_columns R.of_diagonals R.mixed R.columns R.diagonals R.round C.permuted C.rounds
    C.initial C.output C.compress B.block B.blocks B.words B.message B.flags B.chain B.chunk B.parent B.largest B.left_size B.tree B.subtree B.bytes_of B.digest
published = record { empty = refl; short = refl; blocks = refl; parent = refl; levels = refl }
