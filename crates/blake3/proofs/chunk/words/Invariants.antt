-- `blake3::chunk::words`: its loop's invariant is that the first i words are read. Assumes nothing.
use Rattle.std.proofs.Common.{◌≡◌, ℕ, ◌+◌, ◌*◌, ◌<◌, length, get_or}
use Rattle.octets.specs.Number.{number_at}
use Rattle.blake3.proofs.chunk.words.Given as goal

abbrev pub invariant-loop-i : goal.invariant-loop-i
invariant-loop-i l = (length l.word-items ≡ 16) × ((k : ℕ) → k < l.i → get_or l.word-items k 0 ≡ number_at l.s (l.at + 4 * k) 4)
