-- `blake3::tree::store_words`: its loop's invariant is that the first i words stand in the slice. Assumes nothing.
use Rattle.blake3.proofs.OutputLaw.{Stored}
use Rattle.blake3.proofs.tree.store_words.Given as goal

abbrev pub invariant-loop-i : goal.invariant-loop-i
invariant-loop-i l = Stored l.initial.out l.at l.word-items l.i l.out
