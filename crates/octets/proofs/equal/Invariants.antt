use Rattle.std.proofs.Common.{length}
use Rattle.octets.proofs.EqualLaw.{Compared}
use Rattle.octets.proofs.equal.Given as goal

-- no bit of differ is set just where the bytes passed are the same
abbrev pub invariant-loop-x : goal.invariant-loop-x
invariant-loop-x l = Compared l.a l.b (length l.yielded) l.differ
